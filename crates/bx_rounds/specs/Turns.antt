-- What a promise or an acceptance is for a proposal.
use Rattle.std.specs.Prelude.{◌≡◌, ◌≢◌, ℕ, ◌⊎◌, Some, None, IsSomeAnd}
use Rattle.bx_packets.specs.declared.message.Promise.{Promise}
use Rattle.bx_rows.specs.declared.ballot.Ballot.{Ballot}
use Rattle.bx_rounds.specs.declared.course.Proposal.{Proposal}
use Rattle.bx_rounds.specs.declared.votes.Turn.{Turn}
use Rattle.bx_rounds.specs.declared.votes.Turn.TheVariants.{Passed, First, Second}
use Rattle.bx_rounds.specs.Steps.{Counts, IsFirstOf, IsOfAnother, IsVote}

abbrev pub PromiseTurn : Proposal → ℕ → Promise → Turn → Type 0
PromiseTurn p n q Passed = (Counts p q → ⊥) ⊎ IsFirstOf n p.promise
PromiseTurn p n q First = Counts p q × (p.promise ≡ None)
PromiseTurn p n q Second = Counts p q × IsOfAnother n p.promise

abbrev pub VoteTurn : Proposal → ℕ → Ballot → ℕ → Turn → Type 0
VoteTurn p n b index Passed = (IsVote p b index → ⊥) ⊎ (p.accepted ≡ Some n)
VoteTurn p n b index First = IsVote p b index × (p.accepted ≡ None)
VoteTurn p n b index Second = IsVote p b index × IsSomeAnd p.accepted (λ m. m ≢ n)
