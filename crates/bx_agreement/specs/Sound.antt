-- What holds of the cells of three replicas, and of what was sent.
use Rattle.std.specs.Prelude.{◌≡◌, ◌≢◌, ℕ, ◌+◌, ◌<◌, ◌≤◌, ◌⊎◌, List, ◌∷◌, Option, Some}
use Rattle.bx_answers.specs.Handling.{AtMost}
use Rattle.bx_rows.specs.declared.ballot.Ballot.{Ballot}
use Rattle.bx_global.specs.declared.change.Change.{Change}
use Rattle.bx_global.specs.declared.held.Held.{Held}
use Rattle.bx_global.specs.declared.state.GlobalState.{GlobalState}
use Rattle.bx_rows.specs.Ballots.{ComesBefore}
use Rattle.bx_facts.specs.Chains.{AreLegal, IsPlace, grown}
use Rattle.bx_agreement.specs.History.{History, Proposal, Vote, Promised, IsProposed, HasVoted, HasPromised, AreTwo, IsChosen, IsBlocked, IsBacked, ComesNext, IsSent, ComesBy}

-- the cell remembers a vote
pub record Remembers (held : Held) (b : Ballot) (s : GlobalState) : Type 0 where
  pub promise : AtMost b held.promise
  pub vote : (s.index < held.index) ⊎ ((s.index ≡ held.index) × (held.flag ≡ 1) × AtMost b held.ballot)

-- what a cell has accepted
pub record HasAccepted (ps : List Proposal) (held : Held) : Type 0 where
  pub proposed : IsProposed ps held.ballot held.accepted
  pub index : held.accepted.index ≡ held.index
  pub promise : AtMost held.ballot held.promise

-- a cell
pub record IsCell (h : History) (n : ℕ) (held : Held) : Type 0 where
  pub index : held.index ≡ held.decided.index + 1
  pub place : IsPlace h.chain held.decided
  pub accepted : held.flag ≡ 1 → HasAccepted h.proposals held
  pub votes : (b : Ballot) (s : GlobalState) → HasVoted h.votes n b → IsProposed h.proposals b s → Remembers held b s
  pub promises : (p : Promised) → HasPromised h.promises p → p.replica ≡ n → AtMost p.ballot held.promise

-- what a promise says of votes
pub record Tells (ps : List Proposal) (vs : List Vote) (p : Promised) : Type 0 where
  pub replica : p.replica < 3
  pub votes : (b : Ballot) (s : GlobalState) → HasVoted vs p.replica b → IsProposed ps b s → s.index ≡ p.index → ComesBefore b p.ballot → (p.flag ≡ 1) × AtMost b p.accepted
  pub proposed : p.flag ≡ 1 → IsProposed ps p.accepted p.state
  pub index : p.flag ≡ 1 → p.state.index ≡ p.index

pub record IsSound (h : History) (cells : ℕ → Option Held) : Type 0 where
  pub cell : (n : ℕ) (held : Held) → cells n ≡ Some held → IsCell h n held
  pub silent : (n : ℕ) (b : Ballot) → HasVoted h.votes n b → (held : Held) × (cells n ≡ Some held)
  pub voted : (n : ℕ) (b : Ballot) → HasVoted h.votes n b → (s : GlobalState) × IsProposed h.proposals b s
  pub promises : (p : Promised) → HasPromised h.promises p → Tells h.proposals h.votes p
  pub single : (b : Ballot) (s t : GlobalState) → IsProposed h.proposals b s → IsProposed h.proposals b t → s ≡ t
  pub backed : (b : Ballot) (s : GlobalState) → IsProposed h.proposals b s → IsBacked h.promises b
  pub next : (b : Ballot) (s : GlobalState) → IsProposed h.proposals b s → ComesNext h.chain h.proposed s
  pub safe : (b c : Ballot) (s t : GlobalState) → IsProposed h.proposals b s → IsProposed h.proposals c t → t.index ≡ s.index → ComesBefore c b → (t ≡ s) ⊎ IsBlocked h.votes h.promises c
  pub changes : (p : Proposal) → IsSent h.proposals p → ComesBy h.chain h.proposed p.change p.state
  pub legal : AreLegal h.chain.first h.chain.changes
  pub chosen : (s : GlobalState) → IsPlace h.chain s → (s ≡ h.chain.first) ⊎ IsChosen h.proposals h.votes s

-- a cell becomes this, and the others stay
pub record Puts (n : ℕ) (held : Held) (old new : ℕ → Option Held) : Type 0 where
  pub at : new n ≡ Some held
  pub others : (m : ℕ) → m ≢ n → new m ≡ old m

-- the promise that a replica sends then
abbrev pub promise_sent : ℕ → Held → Promised
promise_sent n held = record { replica = n; ballot = held.promise; index = held.index; flag = held.flag; accepted = held.ballot; state = held.accepted }

-- the history with one promise more, one vote, one proposal, one state of the chain, one change handed in
abbrev pub with_promise : Promised → History → History
with_promise p h = record h { promises = p ∷ h.promises }

abbrev pub with_vote : ℕ → Ballot → History → History
with_vote n b h = record h { votes = record { replica = n; ballot = b } ∷ h.votes }

abbrev pub with_proposal : Ballot → GlobalState → Change → History → History
with_proposal b s c h = record h { proposals = record { ballot = b; state = s; change = c } ∷ h.proposals }

abbrev pub with_state : Change → History → History
with_state change h = record h { chain = grown h.chain change }

abbrev pub with_change : Change → History → History
with_change change h = record h { proposed = change ∷ h.proposed }

-- which state is sent in an accept: that of the promise with the higher accepted ballot, or one's own
abbrev pub Picks : Promised → Promised → GlobalState → GlobalState → Type 0
Picks p q own s =
    (((p.flag ≡ 1 → ⊥) × (q.flag ≡ 1 → ⊥)) × (s ≡ own))
    ⊎ (((p.flag ≡ 1) × (s ≡ p.state) × (q.flag ≡ 1 → AtMost q.accepted p.accepted))
    ⊎ ((q.flag ≡ 1) × (s ≡ q.state) × (p.flag ≡ 1 → AtMost p.accepted q.accepted)))

-- An accept may be sent: two have promised, and none was sent in this ballot.
pub record MayPropose (h : History) (b : Ballot) (p q : Promised) (own s : GlobalState) (c : Change) : Type 0 where
  pub by : ComesBy h.chain h.proposed c s
  pub fresh : (t : GlobalState) → IsProposed h.proposals b t → ⊥
  pub differ : p.replica ≢ q.replica
  pub one : HasPromised h.promises p
  pub other : HasPromised h.promises q
  pub one_ballot : p.ballot ≡ b
  pub other_ballot : q.ballot ≡ b
  pub one_index : p.index ≡ own.index
  pub other_index : q.index ≡ own.index
  pub next : ComesNext h.chain h.proposed own
  pub picks : Picks p q own s

-- What the cells are read as: the accepted state of the highest ballot at the greatest index above each decided one ..
pub record IsAhead (cells : ℕ → Option Held) (n : ℕ) (held : Held) : Type 0 where
  pub is : cells n ≡ Some held
  pub flag : held.flag ≡ 1
  pub above : (m : ℕ) (other : Held) → cells m ≡ Some other → other.decided.index < held.accepted.index
  pub greatest : (m : ℕ) (other : Held) → cells m ≡ Some other → other.flag ≡ 1 → other.accepted.index ≤ held.accepted.index
  pub highest : (m : ℕ) (other : Held) → cells m ≡ Some other → other.flag ≡ 1 → other.accepted.index ≡ held.accepted.index → AtMost other.ballot held.ballot

-- .. and where there is none, the decided state of the greatest index
pub record IsLevel (cells : ℕ → Option Held) (n : ℕ) (held : Held) : Type 0 where
  pub is : cells n ≡ Some held
  pub greatest : (m : ℕ) (other : Held) → cells m ≡ Some other → other.decided.index ≤ held.decided.index
  pub none : (m : ℕ) (other : Held) → cells m ≡ Some other → other.flag ≡ 1 → other.accepted.index ≤ held.decided.index

abbrev pub ReadsAs : (ℕ → Option Held) → GlobalState → Type 0
ReadsAs cells s = ((n : ℕ) × (held : Held) × IsAhead cells n held × (s ≡ held.accepted)) ⊎ ((n : ℕ) × (held : Held) × IsLevel cells n held × (s ≡ held.decided))

-- two are readable
pub record HasTwo (cells : ℕ → Option Held) (n m : ℕ) (one other : Held) : Type 0 where
  pub two : AreTwo n m
  pub is_one : cells n ≡ Some one
  pub is_other : cells m ≡ Some other
