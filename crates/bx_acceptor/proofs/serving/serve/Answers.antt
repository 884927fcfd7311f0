use Rattle.std.proofs.Common.{ℕ, subst}
use Rattle.std.proofs.lemmas.Result.{IfOk-from_err}
use Rattle.bx_calls.specs.Calls.{LeavesOnly}
use Rattle.bx_cell.specs.Cells.{HasEither, next}
use Rattle.bx_cell.specs.Images.{EachSure}
use Rattle.bx_global.specs.Bytes.{held_text}
use Rattle.bx_acceptor.specs.Disks.{Writes}
use Rattle.bx_acceptor.proofs.Kept.{either_stays, moment_stays, quiet_unless, stored_or_same, writes_nothing}
use Rattle.bx_acceptor.proofs.Taking.{changed_rises}
use Rattle.bx_acceptor.proofs.serving.serve.Goals as goal

pub save-requires-clause-held : goal.save-requires-clause-held
save-requires-clause-held g c = (c.requires.held.0, c.in_ok-step.ensures.kept c.requires.held.0 c.requires.held.1 c.requires.held.2)

pub save-requires-clause-number : goal.save-requires-clause-number
save-requires-clause-number g c = λ changed. changed_rises c.args.held.now c.args.message c.args.cell.now.found.number c.requires.taken (c.in_ok-step.ensures.spare changed)

pub returns-in_err-step-clause-answers : goal.returns-in_err-step-clause-answers
returns-in_err-step-clause-answers g c =
    IfOk-from_err c.from_residual.result _ c.from_residual.ensures.0

pub returns-in_err-step-clause-stored : goal.returns-in_err-step-clause-stored
returns-in_err-step-clause-stored g c =
    IfOk-from_err c.from_residual.result _ c.from_residual.ensures.0

pub returns-in_err-step-clause-held : goal.returns-in_err-step-clause-held
returns-in_err-step-clause-held g c =
    c.in_err-step.ensures.kept

pub returns-in_err-step-clause-holds : goal.returns-in_err-step-clause-holds
returns-in_err-step-clause-holds g c =
    λ tells each. IfOk-from_err c.from_residual.result _ c.from_residual.ensures.0

pub returns-in_err-step-clause-any_moment : goal.returns-in_err-step-clause-any_moment
returns-in_err-step-clause-any_moment g c =
    λ tells each. moment_stays (g.R.Rack.state c.args.rack.now) c.args.replica c.args.cell.now (held_text c.handle.new.held) (g.R.Rack.moment c.args.rack.now) (g.R.Rack.left_since c.args.rack.now) c.requires.cell.0 c.requires.cell.1 (λ image left. g.met.R.Rack.only_now c.args.rack.now image tells left) each

pub returns-in_err-step-clause-either : goal.returns-in_err-step-clause-either
returns-in_err-step-clause-either g c =
    λ tells each. either_stays (g.R.Rack.state c.args.rack.now) c.args.replica c.args.cell.now (held_text c.handle.new.held) c.requires.cell.0 c.requires.cell.1 each

pub returns-in_err-step-clause-disks : goal.returns-in_err-step-clause-disks
returns-in_err-step-clause-disks g c =
    λ tells. writes_nothing (g.R.Rack.state c.args.rack.now) (g.R.Rack.moment c.args.rack.now) (g.R.Rack.left_since c.args.rack.now) c.args.replica (λ image left. g.met.R.Rack.only_now c.args.rack.now image tells left)

pub returns-in_err-save-clause-answers : goal.returns-in_err-save-clause-answers
returns-in_err-save-clause-answers g c =
    IfOk-from_err c.from_residual-in_err-save.result _ c.from_residual-in_err-save.ensures.0

pub returns-in_err-save-clause-stored : goal.returns-in_err-save-clause-stored
returns-in_err-save-clause-stored g c =
    IfOk-from_err c.from_residual-in_err-save.result _ c.from_residual-in_err-save.ensures.0

pub returns-in_err-save-clause-holds : goal.returns-in_err-save-clause-holds
returns-in_err-save-clause-holds g c =
    λ tells each. IfOk-from_err c.from_residual-in_err-save.result _ c.from_residual-in_err-save.ensures.0

pub returns-in_err-save-clause-held : goal.returns-in_err-save-clause-held
returns-in_err-save-clause-held g c =
    c.in_ok-step.ensures.kept

pub returns-in_err-save-clause-spare : goal.returns-in_err-save-clause-spare
returns-in_err-save-clause-spare g c =
    quiet_unless c.in_ok-step.step.changed _ _ c.in_ok-step.ensures.spare c.in_err-save.ensures.quiet

pub returns-in_err-save-clause-any_moment : goal.returns-in_err-save-clause-any_moment
returns-in_err-save-clause-any_moment g c =
    λ tells each. subst (λ (disk : ℕ). LeavesOnly (g.R.Rack.moment c.args.rack.now) (g.R.Rack.moment c.save.new.rack) (g.R.Rack.left_since c.args.rack.now) (g.R.Rack.left_since c.save.new.rack) (HasEither (g.R.Rack.state c.args.rack.now) disk 1 c.args.cell.now.found (next c.args.cell.now.found (held_text c.handle.new.held)))) c.requires.cell.0 (c.in_err-save.ensures.any_moment tells each)

pub returns-in_err-save-clause-either : goal.returns-in_err-save-clause-either
returns-in_err-save-clause-either g c =
    λ tells each. subst (λ (disk : ℕ). EachSure (g.R.Rack.state c.save.new.rack) (HasEither (g.R.Rack.state c.args.rack.now) disk 1 c.args.cell.now.found (next c.args.cell.now.found (held_text c.handle.new.held)))) c.requires.cell.0 (c.in_err-save.ensures.either tells each)

pub returns-in_err-save-clause-disks : goal.returns-in_err-save-clause-disks
returns-in_err-save-clause-disks g c =
    λ tells. subst (λ (disk : ℕ). Writes (g.R.Rack.state c.args.rack.now) (g.R.Rack.state c.save.new.rack) (g.R.Rack.moment c.args.rack.now) (g.R.Rack.moment c.save.new.rack) (g.R.Rack.left_since c.args.rack.now) (g.R.Rack.left_since c.save.new.rack) disk) c.requires.cell.0 (c.in_err-save.ensures.disks tells)

pub returns-in_err-tell-clause-answers : goal.returns-in_err-tell-clause-answers
returns-in_err-tell-clause-answers g c =
    IfOk-from_err c.from_residual-in_err-tell.result _ c.from_residual-in_err-tell.ensures.0

pub returns-in_err-tell-clause-stored : goal.returns-in_err-tell-clause-stored
returns-in_err-tell-clause-stored g c =
    IfOk-from_err c.from_residual-in_err-tell.result _ c.from_residual-in_err-tell.ensures.0

pub returns-in_err-tell-clause-holds : goal.returns-in_err-tell-clause-holds
returns-in_err-tell-clause-holds g c =
    λ tells each. IfOk-from_err c.from_residual-in_err-tell.result _ c.from_residual-in_err-tell.ensures.0

pub returns-in_err-tell-clause-held : goal.returns-in_err-tell-clause-held
returns-in_err-tell-clause-held g c =
    c.in_ok-step.ensures.kept

pub returns-in_err-tell-clause-spare : goal.returns-in_err-tell-clause-spare
returns-in_err-tell-clause-spare g c =
    quiet_unless c.in_ok-step.step.changed _ _ c.in_ok-step.ensures.spare c.in_ok-save.ensures.quiet

pub returns-in_err-tell-clause-any_moment : goal.returns-in_err-tell-clause-any_moment
returns-in_err-tell-clause-any_moment g c =
    λ tells each. subst (λ (disk : ℕ). LeavesOnly (g.R.Rack.moment c.args.rack.now) (g.R.Rack.moment c.save.new.rack) (g.R.Rack.left_since c.args.rack.now) (g.R.Rack.left_since c.save.new.rack) (HasEither (g.R.Rack.state c.args.rack.now) disk 1 c.args.cell.now.found (next c.args.cell.now.found (held_text c.handle.new.held)))) c.requires.cell.0 (c.in_ok-save.ensures.any_moment tells each)

pub returns-in_err-tell-clause-either : goal.returns-in_err-tell-clause-either
returns-in_err-tell-clause-either g c =
    λ tells each. subst (λ (disk : ℕ). EachSure (g.R.Rack.state c.save.new.rack) (HasEither (g.R.Rack.state c.args.rack.now) disk 1 c.args.cell.now.found (next c.args.cell.now.found (held_text c.handle.new.held)))) c.requires.cell.0 (c.in_ok-save.ensures.either tells each)

pub returns-in_err-tell-clause-disks : goal.returns-in_err-tell-clause-disks
returns-in_err-tell-clause-disks g c =
    λ tells. subst (λ (disk : ℕ). Writes (g.R.Rack.state c.args.rack.now) (g.R.Rack.state c.save.new.rack) (g.R.Rack.moment c.args.rack.now) (g.R.Rack.moment c.save.new.rack) (g.R.Rack.left_since c.args.rack.now) (g.R.Rack.left_since c.save.new.rack) disk) c.requires.cell.0 (c.in_ok-save.ensures.disks tells)

pub returns-clause-stored : goal.returns-clause-stored
returns-clause-stored g c =
    stored_or_same c.in_ok-step.step.changed c.args.cell.now c.save.new.cell c.args.held.now c.handle.new.held _ c.in_ok-save.ensures.saved c.in_ok-step.ensures.same c.in_ok-save.ensures.quiet

pub returns-clause-holds : goal.returns-clause-holds
returns-clause-holds g c =
    c.in_ok-save.ensures.holds

pub returns-clause-held : goal.returns-clause-held
returns-clause-held g c =
    c.in_ok-step.ensures.kept

pub returns-clause-spare : goal.returns-clause-spare
returns-clause-spare g c =
    quiet_unless c.in_ok-step.step.changed _ _ c.in_ok-step.ensures.spare c.in_ok-save.ensures.quiet

pub returns-clause-any_moment : goal.returns-clause-any_moment
returns-clause-any_moment g c =
    λ tells each. subst (λ (disk : ℕ). LeavesOnly (g.R.Rack.moment c.args.rack.now) (g.R.Rack.moment c.save.new.rack) (g.R.Rack.left_since c.args.rack.now) (g.R.Rack.left_since c.save.new.rack) (HasEither (g.R.Rack.state c.args.rack.now) disk 1 c.args.cell.now.found (next c.args.cell.now.found (held_text c.handle.new.held)))) c.requires.cell.0 (c.in_ok-save.ensures.any_moment tells each)

pub returns-clause-either : goal.returns-clause-either
returns-clause-either g c =
    λ tells each. subst (λ (disk : ℕ). EachSure (g.R.Rack.state c.save.new.rack) (HasEither (g.R.Rack.state c.args.rack.now) disk 1 c.args.cell.now.found (next c.args.cell.now.found (held_text c.handle.new.held)))) c.requires.cell.0 (c.in_ok-save.ensures.either tells each)

pub returns-clause-disks : goal.returns-clause-disks
returns-clause-disks g c =
    λ tells. subst (λ (disk : ℕ). Writes (g.R.Rack.state c.args.rack.now) (g.R.Rack.state c.save.new.rack) (g.R.Rack.moment c.args.rack.now) (g.R.Rack.moment c.save.new.rack) (g.R.Rack.left_since c.args.rack.now) (g.R.Rack.left_since c.save.new.rack) disk) c.requires.cell.0 (c.in_ok-save.ensures.disks tells)
