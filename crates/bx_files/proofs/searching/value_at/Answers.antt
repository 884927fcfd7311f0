use Rattle.std.proofs.Common.{sym}
use Rattle.bx_page.specs.Contents.{value_of}
use Rattle.bx_chunks.specs.bx_truth.specs.PageTrees.{map_of}
use Rattle.bx_files.proofs.Slots.{search_block}
use Rattle.bx_files.proofs.Told.{need_told}
use Rattle.bx_files.proofs.searching.value_at.Goals as goal

pub returns-in-Ok-clause-map : goal.returns-in-Ok-clause-map
returns-in-Ok-clause-map g c = λ truth tree u. sym (c.in-Ok.ensures.map c.args.areas truth tree u)

pub returns-in-Err-Absent-clause-map : goal.returns-in-Err-Absent-clause-map
returns-in-Err-Absent-clause-map g c = λ truth tree u. sym (rw c.in-Err-Absent.field-0-is at (c.in-Err-Absent.ensures.map c.args.areas truth tree u))

pub returns-in-Err-Need-clause-map : goal.returns-in-Err-Need-clause-map
returns-in-Err-Need-clause-map g c = λ truth tree u.
    need_told (value_of (map_of tree) c.args.key.now) c.args.areas c.in-Err-Need.at c.needed.result c.needed.ensures
    (search_block c.args.areas (g.V.View.held c.args.view.now) (g.V.View.hints c.args.view.now) truth c.args.root tree c.args.key.now c.in-Err-Need.at _ u (rw c.in-Err-Need.field-0-is at c.in-Err-Need.ensures.fair).1)

pub returns-in-Err-Stale-clause-map : goal.returns-in-Err-Stale-clause-map
returns-in-Err-Stale-clause-map g c = λ truth tree u. rw c.in-Err-Stale.field-0-is at (c.in-Err-Stale.ensures.map c.args.areas truth tree u)
