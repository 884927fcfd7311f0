-- How a proposer stands after each step.
use Rattle.std.proofs.Common.{◌≡◌, ℕ, subst}
use Rattle.bx_facts.specs.declared.input.Input.{Input}
use Rattle.bx_global.specs.Allowed.{IsChange}
use Rattle.bx_global.specs.Table.{IsLegal}
use Rattle.bx_global.specs.declared.change.Change.{Change}
use Rattle.bx_rounds.specs.Courses.{IsCourse, LeadsOn, Steps}
use Rattle.bx_rounds.specs.Steps.{Proposes}
use Rattle.bx_rounds.specs.declared.course.Course.{Course}
use Rattle.bx_rounds.specs.declared.course.Move.{Move}
use Rattle.bx_rounds.proofs.Kept.{proposes_kept, steps_kept}
use Rattle.bx_rounds.proofs.Leading.{step_on}
use Rattle.bx_proposer.specs.Standing.{IsProposerView, ProposerView, devices_of, going_on}

-- a proposer whose course goes on
pub stands_with : (s : ProposerView) (new : Course) → IsProposerView s → IsCourse (devices_of s) new → IsProposerView (going_on s new)
stands_with s new is course = record { machine = is.machine; actor = is.actor; actor_fits = is.actor_fits; others = is.others; first = is.first; course = course }

pub takes_kept : (s : ProposerView) (count : ℕ) (new : Course) (input : Input) (move : Move) → count ≡ devices_of s → IsProposerView s → Steps s.actor count s.course input new move → IsProposerView (going_on s new)
takes_kept s count new input move same is steps =
    stands_with s new is (steps_kept (devices_of s) s.actor s.course new input move is.actor_fits is.course (subst (λ (k : ℕ). Steps s.actor k s.course input new move) same steps))

pub change_kept : (s : ProposerView) (new : Course) (change : Change) (move : Move) → IsProposerView s → IsLegal s.course.known change → IsChange change → Proposes s.actor s.course change new move → IsProposerView (going_on s new)
change_kept s new change move is legal numbers proposes =
    stands_with s new is (proposes_kept (devices_of s) s.actor s.course new change move is.actor_fits is.course legal numbers proposes)

-- no step forgets
pub steps_on : (s : ProposerView) (count : ℕ) (new : Course) (input : Input) (move : Move) → count ≡ devices_of s → IsProposerView s → Steps s.actor count s.course input new move → LeadsOn s.course new
steps_on s count new input move devices is steps = step_on (devices_of s) s.actor s.course new input move is.course (subst (λ (k : ℕ). Steps s.actor k s.course input new move) devices steps)
