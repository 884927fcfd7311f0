-- A proposer among the voters: the round that it has out, and what holds of it by what was sent.
use Rattle.std.specs.Prelude.{◌≡◌, ℕ, ◌⊎◌, Option, Some, None, IfSome}
use Rattle.std.specs.Option.{option_map}
use Rattle.bx_agreement.specs.Events.{Is, Machine, HistoryStands}
use Rattle.bx_agreement.specs.History.{ComesNext, History, IsProposed}
use Rattle.bx_agreement.specs.Round.{Round}
use Rattle.bx_facts.specs.Chains.{GrowsBy, IsPlace, last}
use Rattle.bx_global.specs.declared.held.Held.{Held}
use Rattle.bx_rows.specs.declared.ballot.Ballot.{Ballot}
use Rattle.bx_global.specs.declared.state.GlobalState.{GlobalState}
use Rattle.bx_rounds.specs.declared.course.Course.{Course}
use Rattle.bx_rounds.specs.declared.course.Proposal.{Proposal}
use Rattle.bx_rounds.specs.Steps.{promised_in}

-- the round of a proposal in a ballot
abbrev pub round_in : Ballot → Proposal → Round
round_in b p = record { own = p.own; ballot = b; promise = option_map promised_in p.promise; sent = p.sent; accepted = p.accepted }

abbrev pub round_by : Option Ballot → Proposal → Option Round
round_by None p = None
round_by (Some b) p = Some (round_in b p)

abbrev pub round_of : Option Proposal → Option Round
round_of None = None
round_of (Some p) = round_by p.ballot p

-- the machine that proposes, as the others' votes see it
abbrev pub machine_of : Course → Machine
machine_of c = record { boot = c.boot; seen = c.seen; known = c.known; out = round_of c.out }

-- What holds of a proposer by what was sent: of its round, and that its proposal makes the state behind a place of the chain.
pub record IsProposing (h : History) (me : ℕ) (c : Course) : Type 0 where
  pub is : Is h me (machine_of c)
  pub own : IfSome c.out (λ p. ComesNext h.chain h.proposed p.own)

-- The history goes on: at most one accept was sent, or one change came into the chain.
pub record HistoryGoesOn (h new : History) : Type 0 where
  pub grows : GrowsBy h.proposed h.chain new.chain
  pub proposed : new.proposed ≡ h.proposed
  pub proposals : (b : Ballot) (s : GlobalState) → IsProposed h.proposals b s → IsProposed new.proposals b s
  pub promises : new.promises ≡ h.promises
  pub votes : new.votes ≡ h.votes

-- A proposer goes on: so does the history, and all stands with it. The chain grows only by what the proposer knows then.
pub record Agrees (h : History) (cells : ℕ → Option Held) (new : ℕ → Machine) (me : ℕ) (c : Course) : Type 0 where
  pub history : History
  pub goes_on : HistoryGoesOn h history
  pub told : (history.chain ≡ h.chain) ⊎ (c.known ≡ last history.chain)
  pub stands : HistoryStands history cells new
  pub proposing : IsProposing history me c

-- What is known, and what was sent to be accepted, may be under way.
pub record MayTell (h : History) (c : Course) : Type 0 where
  pub known : IsPlace h.chain c.known
  pub sent : (p : Proposal) (b : Ballot) (s : GlobalState) → c.out ≡ Some p → p.ballot ≡ Some b → p.sent ≡ Some s → IsProposed h.proposals b s
