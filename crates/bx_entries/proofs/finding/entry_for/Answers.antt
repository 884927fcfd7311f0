use Rattle.std.proofs.Common.{refl}
use Rattle.bx_changes.specs.bx_files.proofs.Slots.{search_block}
use Rattle.bx_truth.specs.Keys.{name_key}
use Rattle.bx_entries.proofs.Found.{need_lists}
use Rattle.bx_entries.proofs.finding.entry_for.Goals as goal

pub returns-in-Ok-clause-list : goal.returns-in-Ok-clause-list
returns-in-Ok-clause-list g c = λ truth names has. c.in-Ok.ensures.list c.args.areas truth names has

pub returns-in-Err-Absent-clause-list : goal.returns-in-Err-Absent-clause-list
returns-in-Err-Absent-clause-list g c = λ truth names has. (refl, rw c.in-Err-Absent.field-0-is at (c.in-Err-Absent.ensures.list c.args.areas truth names has))

pub returns-in-Err-Need-clause-list : goal.returns-in-Err-Need-clause-list
returns-in-Err-Need-clause-list g c = λ truth names has.
    need_lists names c.args.name.now c.args.areas c.in-Err-Need.at c.needed.result c.needed.ensures
    (search_block c.args.areas (g.V.View.held c.args.view.now) (g.V.View.hints c.args.view.now) truth c.args.root has.tree (name_key c.args.name.now) c.in-Err-Need.at _ has.under (rw c.in-Err-Need.field-0-is at c.in-Err-Need.ensures.fair).1)

pub returns-in-Err-Stale-clause-list : goal.returns-in-Err-Stale-clause-list
returns-in-Err-Stale-clause-list g c = λ truth names has. absurd (rw c.in-Err-Stale.field-0-is at (c.in-Err-Stale.ensures.list c.args.areas truth names has))
