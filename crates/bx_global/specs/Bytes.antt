-- The bytes of a state and of what an acceptor's cell holds. Of each number the highest byte comes first.
use Rattle.std.specs.Prelude.{◌≡◌, ℕ, ◌^◌, ◌<◌, List, ◌++◌, length}
use Rattle.std.specs.Int.{w32, w64, to_be_bytes}
use Rattle.bx_global.specs.declared.held.Held.{Held}
use Rattle.bx_global.specs.declared.state.GlobalState.{GlobalState}
use Rattle.bx_global.specs.Allowed.{Fits, IsAllowed}
use Rattle.bx_rows.specs.Spelling.{pair_text, sessions_text, devices_text}
pub use Rattle.bx_rows.specs.Conditions.{IsBallot}
pub use Rattle.bx_rows.specs.Spelling.{ballot_text}

-- the six numbers of a state: its index, the master and its boot, the term and its end, and the next session
unfoldable pub heads_text : GlobalState → List ℕ
heads_text s = to_be_bytes w64 s.index ++ (pair_text s.master s.master_boot ++ (to_be_bytes w64 s.term ++ (to_be_bytes w64 s.term_end ++ to_be_bytes w64 s.next_session)))

-- the numbers of a state, its sessions and its devices
unfoldable pub state_text : GlobalState → List ℕ
state_text s = heads_text s ++ (sessions_text s.sessions ++ devices_text s.devices)

-- the index, the promise, the accepted ballot and the flag
unfoldable pub marks_text : Held → List ℕ
marks_text held = to_be_bytes w64 held.index ++ (ballot_text held.promise ++ (ballot_text held.ballot ++ to_be_bytes w32 held.flag))

-- these, and then the accepted state and the decided one
unfoldable pub held_text : Held → List ℕ
held_text held = marks_text held ++ (state_text held.accepted ++ state_text held.decided)

-- the rows of a state can be counted in four bytes
pub record HasCounts (s : GlobalState) : Type 0 where
  pub sessions : length s.sessions < 2 ^ 32
  pub devices : length s.devices < 2 ^ 32

-- the bytes are this state, which meets the conditions
pub record Spells (state : GlobalState) (bytes : List ℕ) : Type 0 where
  pub is : IsAllowed state
  pub parts : bytes ≡ state_text state

-- the conditions on what an acceptor's cell holds, on a volume of so many devices
pub record IsHeld (devices : ℕ) (held : Held) : Type 0 where
  pub index : Fits held.index
  pub promise : IsBallot held.promise
  pub ballot : IsBallot held.ballot
  pub flag : held.flag < 2
  pub accepted : IsAllowed held.accepted
  pub decided : IsAllowed held.decided
  pub accepted_devices : length held.accepted.devices ≡ devices
  pub decided_devices : length held.decided.devices ≡ devices

-- the bytes are what an acceptor's cell holds, on a volume of so many devices
pub record SpellsHeld (held : Held) (bytes : List ℕ) (devices : ℕ) : Type 0 where
  pub is : IsHeld devices held
  pub parts : bytes ≡ held_text held
