-- Reading a state and what an acceptor's cell holds from the front of bytes.
use Rattle.std.specs.Prelude.{◌≡◌, ℕ, ◌<◌, Bool, nat_lt, List, ◌++◌}
use Rattle.std.specs.Int.{w32, w64}
use Rattle.std.specs.List.{AllByRecursion}
use Rattle.bx_rows.specs.bx_base.specs.Reading.{Reader, number_at, then_at, as_at, tested_at}
use Rattle.bx_rows.specs.bx_base.specs.declared.error.ReadError.{ReadError}
use Rattle.bx_rows.specs.bx_base.specs.declared.error.ReadError.TheVariants as errors
use Rattle.bx_rows.specs.declared.ballot.Ballot.{Ballot}
use Rattle.bx_rows.specs.declared.device.DeviceRow.{DeviceRow}
use Rattle.bx_rows.specs.declared.session.SessionRow.{SessionRow}
use Rattle.bx_rows.specs.Conditions.{AreRising, HaveOwnSlots, IsPlaced}
use Rattle.bx_rows.specs.Reading.{ballot_at, devices_at, pair_at, sessions_at}
use Rattle.bx_global.specs.declared.held.Held.{Held}
use Rattle.bx_global.specs.declared.held.Marks.{Marks}
use Rattle.bx_global.specs.declared.reading.Heads.{Heads}
use Rattle.bx_global.specs.declared.state.GlobalState.{GlobalState}
use Rattle.bx_global.specs.Allowed.{IsAllowed}
use Rattle.bx_global.specs.Bytes.{SpellsHeld, state_text}

-- the six numbers of a state
abbrev pub HeadFields : Type 0
HeadFields = ℕ × ((ℕ × ℕ) × (ℕ × (ℕ × ℕ)))

abbrev pub heads_with : HeadFields → Heads
heads_with x = record {
  index = x.0;
  master = x.1.0.0;
  master_boot = x.1.0.1;
  term = x.1.1.0;
  term_end = x.1.1.1.0;
  next_session = x.1.1.1.1;
}

abbrev pub head_fields : Heads → HeadFields
head_fields h = (h.index, ((h.master, h.master_boot), (h.term, (h.term_end, h.next_session))))

unfoldable pub heads_at : Reader Heads
heads_at bytes = as_at heads_with (then_at (number_at w64) (then_at pair_at (then_at (number_at w64) (then_at (number_at w64) (number_at w64))))) bytes

-- a state, of which only the counts are tested: its numbers, the sessions and the devices
abbrev pub StateFields : Type 0
StateFields = Heads × (List SessionRow × List DeviceRow)

abbrev pub state_with : StateFields → GlobalState
state_with x = record {
  index = x.0.index;
  master = x.0.master;
  master_boot = x.0.master_boot;
  term = x.0.term;
  term_end = x.0.term_end;
  next_session = x.0.next_session;
  sessions = x.1.0;
  devices = x.1.1;
}

abbrev pub heads_of : GlobalState → Heads
heads_of s = record {
  index = s.index;
  master = s.master;
  master_boot = s.master_boot;
  term = s.term;
  term_end = s.term_end;
  next_session = s.next_session;
}

abbrev pub state_fields : GlobalState → StateFields
state_fields s = (heads_of s, (s.sessions, s.devices))

unfoldable pub parts_at : Reader GlobalState
parts_at bytes = as_at state_with (then_at heads_at (then_at sessions_at devices_at)) bytes

-- what is tested of a state whose numbers fit their fields
pub record IsSound (s : GlobalState) : Type 0 where
  pub master : s.master < 2
  pub sessions : AllByRecursion (IsPlaced s.term_end) s.sessions
  pub rising : AreRising s.sessions s.next_session
  pub own_slots : HaveOwnSlots s.sessions
  pub devices : AllByRecursion (λ row. row.mode < 5) s.devices

-- a state stands at the front of the bytes, and this is behind it
pub record Begins (state : GlobalState) (bytes rest : List ℕ) : Type 0 where
  pub is : IsAllowed state
  pub parts : bytes ≡ state_text state ++ rest

-- what an error says of the bytes: no state stands at their front, unless memory ran out
abbrev pub NoneBegins : ReadError → List ℕ → Type 0
NoneBegins errors.OutOfMemory bytes = Unit {0}
NoneBegins errors.Malformed bytes = (state : GlobalState) (rest : List ℕ) → Begins state bytes rest → ⊥

-- what stands before the states in an acceptor's cell
abbrev pub MarkFields : Type 0
MarkFields = ℕ × (Ballot × (Ballot × ℕ))

abbrev pub marks_with : MarkFields → Marks
marks_with x = record { index = x.0; promise = x.1.0; ballot = x.1.1.0; flag = x.1.1.1 }

abbrev pub mark_fields : Marks → MarkFields
mark_fields marks = (marks.index, (marks.promise, (marks.ballot, marks.flag)))

abbrev pub is_flag : ℕ → Bool
is_flag n = nat_lt n 2

unfoldable pub marks_at : Reader Marks
marks_at bytes = as_at marks_with (then_at (number_at w64) (then_at ballot_at (then_at ballot_at (tested_at is_flag (number_at w32))))) bytes

-- what an error says of the bytes: they aren't what a cell holds, unless memory ran out
abbrev pub NotHeld : ReadError → List ℕ → ℕ → Type 0
NotHeld errors.OutOfMemory bytes devices = Unit {0}
NotHeld errors.Malformed bytes devices = (held : Held) → SpellsHeld held bytes devices → ⊥
