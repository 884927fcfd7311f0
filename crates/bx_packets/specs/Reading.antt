-- Reading the parts of bodies.
use Rattle.std.specs.Prelude.{◌≡◌, ℕ, Bool, nat_lt, List, ◌++◌}
use Rattle.std.specs.Int.{w32, w64}
use Rattle.bx_base.specs.Reading.{Reader, number_at, then_at, as_at, tested_at}
use Rattle.bx_base.specs.declared.error.ReadError.{ReadError}
use Rattle.bx_base.specs.declared.error.ReadError.TheVariants as errors
use Rattle.bx_global.specs.declared.state.GlobalState.{GlobalState}
use Rattle.bx_global.specs.Allowed.{Fits}
use Rattle.bx_global.specs.Bytes.{state_text}
use Rattle.bx_rows.specs.declared.ballot.Ballot.{Ballot}
use Rattle.bx_rows.specs.Conditions.{IsBallot}
use Rattle.bx_rows.specs.Reading.{ballot_at}
use Rattle.bx_rows.specs.Spelling.{ballot_text}
use Rattle.bx_packets.specs.declared.message.Message.{Message}
use Rattle.bx_packets.specs.declared.message.Promise.{Promise}
use Rattle.bx_packets.specs.declared.parts.Marks.{Marks}
use Rattle.bx_packets.specs.Messages.{IsPromise, IsStateOf, Spells, promise_text, refusal_text, vote_text}

-- a ballot and an index, and the other way round
unfoldable pub vote_at : Reader (Ballot × ℕ)
vote_at bytes = then_at ballot_at (number_at w64) bytes

unfoldable pub refusal_at : Reader (ℕ × Ballot)
refusal_at bytes = then_at (number_at w64) ballot_at bytes

-- what stands before the state in a promise
abbrev pub MarkFields : Type 0
MarkFields = Ballot × (ℕ × (ℕ × Ballot))

abbrev pub marks_with : MarkFields → Marks
marks_with x = record { ballot = x.0; index = x.1.0; flag = x.1.1.0; accepted = x.1.1.1 }

abbrev pub mark_fields : Marks → MarkFields
mark_fields marks = (marks.ballot, (marks.index, (marks.flag, marks.accepted)))

abbrev pub is_flag : ℕ → Bool
is_flag n = nat_lt n 2

abbrev pub has_flag : Marks → Bool
has_flag marks = is_flag marks.flag

unfoldable pub marks_at : Reader Marks
marks_at bytes = tested_at has_flag (as_at marks_with (then_at ballot_at (then_at (number_at w64) (then_at (number_at w32) ballot_at)))) bytes

-- the bytes are this and no more
pub record SpellsState (devices : ℕ) (state : GlobalState) (bytes : List ℕ) : Type 0 where
  pub is : IsStateOf devices state
  pub parts : bytes ≡ state_text state

pub record SpellsProposal (devices : ℕ) (ballot : Ballot) (state : GlobalState) (bytes : List ℕ) : Type 0 where
  pub ballot_is : IsBallot ballot
  pub state_is : IsStateOf devices state
  pub parts : bytes ≡ ballot_text ballot ++ state_text state

pub record SpellsPromise (devices : ℕ) (promise : Promise) (bytes : List ℕ) : Type 0 where
  pub is : IsPromise devices promise
  pub parts : bytes ≡ promise_text promise

pub record SpellsVote (ballot : Ballot) (index : ℕ) (bytes : List ℕ) : Type 0 where
  pub ballot_is : IsBallot ballot
  pub index_is : Fits index
  pub parts : bytes ≡ vote_text ballot index

pub record SpellsRefusal (index : ℕ) (ballot : Ballot) (bytes : List ℕ) : Type 0 where
  pub index_is : Fits index
  pub ballot_is : IsBallot ballot
  pub parts : bytes ≡ refusal_text index ballot

-- what an error says of the bytes: they are none such, unless memory ran out
abbrev pub NoState : ReadError → ℕ → List ℕ → Type 0
NoState errors.OutOfMemory devices bytes = Unit {0}
NoState errors.Malformed devices bytes = (state : GlobalState) → SpellsState devices state bytes → ⊥

abbrev pub NoProposal : ReadError → ℕ → List ℕ → Type 0
NoProposal errors.OutOfMemory devices bytes = Unit {0}
NoProposal errors.Malformed devices bytes = (ballot : Ballot) (state : GlobalState) → SpellsProposal devices ballot state bytes → ⊥

abbrev pub NoPromise : ReadError → ℕ → List ℕ → Type 0
NoPromise errors.OutOfMemory devices bytes = Unit {0}
NoPromise errors.Malformed devices bytes = (promise : Promise) → SpellsPromise devices promise bytes → ⊥

abbrev pub NoVote : ReadError → List ℕ → Type 0
NoVote errors.OutOfMemory bytes = Unit {0}
NoVote errors.Malformed bytes = (ballot : Ballot) (index : ℕ) → SpellsVote ballot index bytes → ⊥

abbrev pub NoRefusal : ReadError → List ℕ → Type 0
NoRefusal errors.OutOfMemory bytes = Unit {0}
NoRefusal errors.Malformed bytes = (index : ℕ) (ballot : Ballot) → SpellsRefusal index ballot bytes → ⊥

-- what an error says of a packet: it is no message, unless memory ran out
abbrev pub NoneSpells : ReadError → ℕ → ℕ → List ℕ → Type 0
NoneSpells errors.OutOfMemory devices kind body = Unit {0}
NoneSpells errors.Malformed devices kind body = (message : Message) → Spells devices message kind body → ⊥
