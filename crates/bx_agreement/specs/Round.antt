-- What a proposer has out.
use Rattle.std.specs.Prelude.{◌≡◌, ℕ, ◌+◌, ◌<◌, ◌≤◌, ◌⊎◌, List, Option, Some, None, Contains}
use Rattle.bx_rows.specs.declared.ballot.Ballot.{Ballot}
use Rattle.bx_global.specs.declared.change.Change.{Change}
use Rattle.bx_global.specs.declared.state.GlobalState.{GlobalState}
use Rattle.bx_facts.specs.Chains.{IsPlace}
use Rattle.bx_agreement.specs.History.{History, Promised, Proposal, IsProposed, HasPromised, HasVoted, ComesNext}

pub record Round : Type 0 where
  pub own : GlobalState
  pub ballot : Ballot
  pub promise : Option Promised  -- the first that came
  pub sent : Option GlobalState
  pub accepted : Option ℕ  -- the replica that accepted first

-- each accept of this actor was sent in an earlier boot, or in a round that was drawn
pub record HasDrawn (ps : List Proposal) (me boot seen : ℕ) : Type 0 where
  pub each : (b : Ballot) (s : GlobalState) → IsProposed ps b s → b.actor ≡ me → (b.boot < boot) ⊎ ((b.boot ≡ boot) × (b.round ≤ seen))

-- a promise counts for a round
pub record Counts (h : History) (round : Round) (p : Promised) : Type 0 where
  pub is : HasPromised h.promises p
  pub ballot : p.ballot ≡ round.ballot
  pub index : p.index ≡ round.own.index

pub record IsRound (h : History) (me boot seen : ℕ) (round : Round) : Type 0 where
  pub actor : round.ballot.actor ≡ me
  pub boot_is : round.ballot.boot ≡ boot
  pub drawn : round.ballot.round ≤ seen
  pub next : ComesNext h.chain h.proposed round.own
  pub fresh : round.sent ≡ None → (t : GlobalState) → IsProposed h.proposals round.ballot t → ⊥
  pub promise : (p : Promised) → round.promise ≡ Some p → Counts h round p
  pub sent : (s : GlobalState) → round.sent ≡ Some s → IsProposed h.proposals round.ballot s
  pub accepted : (n : ℕ) → round.accepted ≡ Some n → (n < 3) × HasVoted h.votes n round.ballot

-- a machine that proposes
pub record IsProposer (h : History) (me boot seen : ℕ) (known : GlobalState) (out : Option Round) : Type 0 where
  pub place : IsPlace h.chain known
  pub before : HasDrawn h.proposals me boot seen
  pub round : (r : Round) → out ≡ Some r → IsRound h me boot seen r

-- the history grew, but by no accept
pub record IsLater (old new : History) : Type 0 where
  pub proposals : new.proposals ≡ old.proposals
  pub places : (s : GlobalState) → IsPlace old.chain s → IsPlace new.chain s
  pub proposed : (c : Change) → Contains old.proposed c → Contains new.proposed c
  pub promises : (p : Promised) → HasPromised old.promises p → HasPromised new.promises p
  pub votes : (n : ℕ) (b : Ballot) → HasVoted old.votes n b → HasVoted new.votes n b

-- a round that is prepared, and one in which the accept was sent
abbrev pub prepared : ℕ → ℕ → ℕ → GlobalState → Round
prepared me boot seen own = record { own = own; ballot = record { round = seen + 1; actor = me; boot = boot }; promise = None; sent = None; accepted = None }

abbrev pub sending : GlobalState → Round → Round
sending s round = record round { sent = Some s }
