use Rattle.std.proofs.Common.{◌≡◌, ℕ, Option, Some, None, sym, subst}
use Rattle.bx_entries.specs.declared.finding.Removable.{Removable}
use Rattle.bx_entries.specs.Finding.{removal_error}
use Rattle.bx_entries.proofs.Emptied.{has_none, has_some, has_stopped}
use Rattle.bx_entries.proofs.finding.removal_error.Goals as goal

pub returns-in-Err-clause-step : goal.returns-in-Err-clause-step
returns-in-Err-clause-step g c = λ volume truth tree handle is.
    has_stopped volume c.args.areas (g.V.View.held c.args.view.now) (g.V.View.hints c.args.view.now) truth tree handle c.args.inode.now is c.if-not-is_directory.false c.in-Err.stop c.in-Err.ensures.list (removal_error c.args.sort is.at.file)

pub returns-in-Ok-Some-clause-step : goal.returns-in-Ok-Some-clause-step
returns-in-Ok-Some-clause-step g c = λ volume truth tree handle is.
    subst (λ (s : Removable). ◌≡◌ {A = Option ℕ} (Some 66) (removal_error s is.at.file)) (sym c.in-Directory.is)
    (has_some volume c.args.areas (g.V.View.held c.args.view.now) (g.V.View.hints c.args.view.now) truth tree handle c.args.inode.now is c.if-not-is_directory.false c.in-Ok-Some.field-0 _ c.in-Ok-Some.field-0-is c.in-Ok-Some.ensures.list)

pub returns-clause-step : goal.returns-clause-step
returns-clause-step g c = λ volume truth tree handle is.
    subst (λ (s : Removable). ◌≡◌ {A = Option ℕ} None (removal_error s is.at.file)) (sym c.in-Directory.is)
    (has_none volume c.args.areas (g.V.View.held c.args.view.now) (g.V.View.hints c.args.view.now) truth tree handle c.args.inode.now is c.if-not-is_directory.false c.in-Ok-None.field-0 c.in-Ok-None.field-0-is c.in-Ok-None.ensures.list)
