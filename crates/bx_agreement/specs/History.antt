-- What was sent in the rounds of voting.
use Rattle.std.specs.Prelude.{◌≡◌, ◌≢◌, ℕ, ◌<◌, ◌⊎◌, List, [], ◌∷◌, Contains}
use Rattle.bx_rows.specs.declared.ballot.Ballot.{Ballot}
use Rattle.bx_global.specs.declared.change.Change.{Change}
use Rattle.bx_global.specs.declared.state.GlobalState.{GlobalState}
use Rattle.bx_rows.specs.Ballots.{ComesBefore}
use Rattle.bx_global.specs.Table.{IsLegal, effect}
use Rattle.bx_facts.specs.Chains.{Chain, IsPlace}

-- an accept that was sent
pub record Proposal : Type 0 where
  pub ballot : Ballot
  pub state : GlobalState
  pub change : Change  -- the one that makes the state

-- an accepted that a replica has sent
pub record Vote : Type 0 where
  pub replica : ℕ
  pub ballot : Ballot

-- a promise that a replica has sent
pub record Promised : Type 0 where
  pub replica : ℕ
  pub ballot : Ballot
  pub index : ℕ
  pub flag : ℕ
  pub accepted : Ballot
  pub state : GlobalState

pub record History : Type 0 where
  pub chain : Chain
  pub proposed : List Change
  pub proposals : List Proposal
  pub votes : List Vote
  pub promises : List Promised

-- whether they are among these
abbrev pub IsProposedIn : List Proposal → Ballot → GlobalState → Type 0
IsProposedIn [] b s = ⊥
IsProposedIn (p ∷ ps) b s = ((b ≡ p.ballot) × (s ≡ p.state)) ⊎ IsProposedIn ps b s

abbrev pub IsVoteIn : List Vote → ℕ → Ballot → Type 0
IsVoteIn [] n b = ⊥
IsVoteIn (v ∷ vs) n b = ((n ≡ v.replica) × (b ≡ v.ballot)) ⊎ IsVoteIn vs n b

abbrev pub IsPromiseIn : List Promised → Promised → Type 0
IsPromiseIn [] p = ⊥
IsPromiseIn (q ∷ qs) p = (p ≡ q) ⊎ IsPromiseIn qs p

-- this accept was sent
abbrev pub IsSentIn : List Proposal → Proposal → Type 0
IsSentIn [] p = ⊥
IsSentIn (q ∷ qs) p = (p ≡ q) ⊎ IsSentIn qs p

pub record IsSent (ps : List Proposal) (p : Proposal) : Type 0 where
  pub is : IsSentIn ps p

-- the state was to be accepted at the ballot
pub record IsProposed (ps : List Proposal) (b : Ballot) (s : GlobalState) : Type 0 where
  pub is : IsProposedIn ps b s

-- the replica voted in the ballot
pub record HasVoted (vs : List Vote) (n : ℕ) (b : Ballot) : Type 0 where
  pub is : IsVoteIn vs n b

-- the replica has promised this
pub record HasPromised (ms : List Promised) (p : Promised) : Type 0 where
  pub is : IsPromiseIn ms p

-- two of the three replicas
pub record AreTwo (n m : ℕ) : Type 0 where
  pub one : n < 3
  pub other : m < 3
  pub differ : n ≢ m

-- two voted in this ballot, for this state
pub record IsChosenIn (ps : List Proposal) (vs : List Vote) (s : GlobalState) (b : Ballot) (n m : ℕ) : Type 0 where
  pub proposed : IsProposed ps b s
  pub two : AreTwo n m
  pub one : HasVoted vs n b
  pub other : HasVoted vs m b

abbrev pub IsChosen : List Proposal → List Vote → GlobalState → Type 0
IsChosen ps vs s = (b : Ballot) × (n : ℕ) × (m : ℕ) × IsChosenIn ps vs s b n m

-- the replica has promised at this ballot
pub record HasPromisedAt (ms : List Promised) (n : ℕ) (b : Ballot) : Type 0 where
  pub promise : Promised
  pub is : HasPromised ms promise
  pub replica : promise.replica ≡ n
  pub ballot : promise.ballot ≡ b

-- the replica hasn't voted in the ballot, and never will
pub record IsBarred (vs : List Vote) (ms : List Promised) (n : ℕ) (b : Ballot) : Type 0 where
  pub not_voted : HasVoted vs n b → ⊥
  pub later : Ballot
  pub after : ComesBefore b later
  pub promised : HasPromisedAt ms n later

-- So are two: nothing is ever chosen in it.
pub record IsBlockedBy (vs : List Vote) (ms : List Promised) (b : Ballot) (n m : ℕ) : Type 0 where
  pub two : AreTwo n m
  pub one : IsBarred vs ms n b
  pub other : IsBarred vs ms m b

abbrev pub IsBlocked : List Vote → List Promised → Ballot → Type 0
IsBlocked vs ms b = (n : ℕ) × (m : ℕ) × IsBlockedBy vs ms b n m

-- a proposal stands on two promises
pub record IsBackedBy (ms : List Promised) (b : Ballot) (n m : ℕ) : Type 0 where
  pub two : AreTwo n m
  pub one : HasPromisedAt ms n b
  pub other : HasPromisedAt ms m b

abbrev pub IsBacked : List Promised → Ballot → Type 0
IsBacked ms b = (n : ℕ) × (m : ℕ) × IsBackedBy ms b n m

-- a state comes after a place of the chain, by a change that was handed in
pub record Follows (chain : Chain) (handed : List Change) (place : GlobalState) (change : Change) (s : GlobalState) : Type 0 where
  pub stands : IsPlace chain place
  pub is_handed : Contains handed change
  pub legal : IsLegal place change
  pub is : s ≡ effect place change

abbrev pub ComesNext : Chain → List Change → GlobalState → Type 0
ComesNext chain handed s = (place : GlobalState) × (change : Change) × Follows chain handed place change s

-- .. by this change
abbrev pub ComesBy : Chain → List Change → Change → GlobalState → Type 0
ComesBy chain handed change s = (place : GlobalState) × Follows chain handed place change s
