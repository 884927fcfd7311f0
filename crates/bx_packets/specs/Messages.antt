-- What packets of the register say, and the kind and the body of each. Of each number the highest byte comes first.
use Rattle.std.specs.Prelude.{◌≡◌, ℕ, ◌<◌, List, [], ◌++◌, length}
use Rattle.std.specs.Int.{w32, w64, to_be_bytes}
use Rattle.bx_base.specs.declared.names.Actor.{Actor}
use Rattle.bx_global.specs.declared.state.GlobalState.{GlobalState}
use Rattle.bx_global.specs.Allowed.{Fits, IsAllowed}
use Rattle.bx_global.specs.Bytes.{HasCounts, state_text}
use Rattle.bx_post.specs.declared.packets.Letter.{Letter}
use Rattle.bx_rows.specs.declared.ballot.Ballot.{Ballot}
use Rattle.bx_rows.specs.Conditions.{IsBallot}
use Rattle.bx_rows.specs.Spelling.{ballot_text}
use Rattle.bx_packets.specs.declared.message.Message.{Message}
use Rattle.bx_packets.specs.declared.message.Message.TheVariants.{Ask, Decided, Prepare, Promise as Promising, Accept, Accepted, Refused}
use Rattle.bx_packets.specs.declared.message.Promise.{Promise}

-- a state of a cluster with so many devices
pub record IsStateOf (devices : ℕ) (state : GlobalState) : Type 0 where
  pub is : IsAllowed state
  pub devices_are : length state.devices ≡ devices

-- the conditions on a promise
pub record IsPromise (devices : ℕ) (promise : Promise) : Type 0 where
  pub ballot : IsBallot promise.ballot
  pub index : Fits promise.index
  pub flag : promise.flag < 2
  pub accepted : IsBallot promise.accepted
  pub state : IsStateOf devices promise.state

-- the conditions on what a packet says, in a cluster with so many devices
abbrev pub IsMessage : ℕ → Message → Type 0
IsMessage devices Ask = Unit {0}
IsMessage devices (Decided state) = IsStateOf devices state
IsMessage devices (Prepare ballot state) = IsBallot ballot × IsStateOf devices state
IsMessage devices (Promising promise) = IsPromise devices promise
IsMessage devices (Accept ballot state) = IsBallot ballot × IsStateOf devices state
IsMessage devices (Accepted ballot index) = IsBallot ballot × Fits index
IsMessage devices (Refused index ballot) = Fits index × IsBallot ballot

abbrev pub kind_of : Message → ℕ
kind_of Ask = 1
kind_of (Decided state) = 2
kind_of (Prepare ballot state) = 3
kind_of (Promising promise) = 4
kind_of (Accept ballot state) = 5
kind_of (Accepted ballot index) = 6
kind_of (Refused index ballot) = 7

-- what stands before the state in a promise: the ballot, the index, the flag and the accepted ballot
unfoldable pub marks_text : Promise → List ℕ
marks_text promise = ballot_text promise.ballot ++ (to_be_bytes w64 promise.index ++ (to_be_bytes w32 promise.flag ++ ballot_text promise.accepted))

unfoldable pub promise_text : Promise → List ℕ
promise_text promise = marks_text promise ++ state_text promise.state

unfoldable pub vote_text : Ballot → ℕ → List ℕ
vote_text ballot index = ballot_text ballot ++ to_be_bytes w64 index

unfoldable pub refusal_text : ℕ → Ballot → List ℕ
refusal_text index ballot = to_be_bytes w64 index ++ ballot_text ballot

abbrev pub body_text : Message → List ℕ
body_text Ask = []
body_text (Decided state) = state_text state
body_text (Prepare ballot state) = ballot_text ballot ++ state_text state
body_text (Promising promise) = promise_text promise
body_text (Accept ballot state) = ballot_text ballot ++ state_text state
body_text (Accepted ballot index) = vote_text ballot index
body_text (Refused index ballot) = refusal_text index ballot

-- The kind and the body are those of this message, which meets the conditions.
pub record Spells (devices : ℕ) (message : Message) (kind : ℕ) (body : List ℕ) : Type 0 where
  pub is : IsMessage devices message
  pub kind_is : kind ≡ kind_of message
  pub body_is : body ≡ body_text message

-- the letter that says it
abbrev pub letter_with : Actor → Actor → Message → Letter
letter_with from to message = record { from = from; to = to; kind = kind_of message; body = body_text message }

-- the rows of the states in it can be counted in four bytes
abbrev pub HasCountsIn : Message → Type 0
HasCountsIn Ask = Unit {0}
HasCountsIn (Decided state) = HasCounts state
HasCountsIn (Prepare ballot state) = HasCounts state
HasCountsIn (Promising promise) = HasCounts promise.state
HasCountsIn (Accept ballot state) = HasCounts state
HasCountsIn (Accepted ballot index) = Unit {0}
HasCountsIn (Refused index ballot) = Unit {0}
