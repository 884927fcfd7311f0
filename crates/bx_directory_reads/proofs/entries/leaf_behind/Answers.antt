use Rattle.std.proofs.Common.{List, subst, sym}
use Rattle.bx_base.specs.declared.names.Mode.TheVariants.{Shared}
use Rattle.bx_dirs.specs.bx_blink.specs.Hints.{Under}
use Rattle.bx_dirs.specs.bx_blink.specs.Runs.{OnRun}
use Rattle.bx_dirs.specs.bx_blink.specs.Walks.{most, reads_with, start}
use Rattle.bx_records.specs.Drafts.{Changed}
use Rattle.bx_directory_reads.proofs.Along.{leaf_so, need_leaf}
use Rattle.bx_directory_reads.proofs.RunSlots.{run_block}
use Rattle.bx_directory_reads.proofs.entries.leaf_behind.Goals as goal

pub returns-in-Ok-clause-map : goal.returns-in-Ok-clause-map
returns-in-Ok-clause-map g c = λ truth root tree u b.
    leaf_so tree c.args.key.now c.in-Ok.found
    (c.in-Ok.ensures.map c.args.areas truth root tree
    (subst (λ (d : List Changed). Under c.args.areas (g.V.View.held c.args.view.now) (g.V.View.hints c.args.view.now) truth d root tree) (sym c.requires) u) b)

pub returns-in-Err-Need-clause-map : goal.returns-in-Err-Need-clause-map
returns-in-Err-Need-clause-map g c = λ truth root tree u b.
    need_leaf tree c.args.key.now c.args.areas c.in-Err-Need.at c.needed.result c.needed.ensures
    (run_block c.args.areas (g.V.View.held c.args.view.now) (g.V.View.hints c.args.view.now) truth root tree c.args.handle c.args.key.now c.in-Err-Need.at c.in-Err-Need.field-0-1 u b
    (subst (λ (d : List Changed). OnRun (reads_with (g.V.View.held c.args.view.now) (g.V.View.hints c.args.view.now) d) most c.args.key.now (start c.args.handle Shared) c.in-Err-Need.at c.in-Err-Need.field-0-1) c.requires
    (rw c.in-Err-Need.field-0-is at c.in-Err-Need.ensures.fair).1))

pub returns-in-Err-Stale-clause-map : goal.returns-in-Err-Stale-clause-map
returns-in-Err-Stale-clause-map g c = λ truth root tree u b.
    absurd (rw c.in-Err-Stale.field-0-is at
    (c.in-Err-Stale.ensures.map c.args.areas truth root tree
    (subst (λ (d : List Changed). Under c.args.areas (g.V.View.held c.args.view.now) (g.V.View.hints c.args.view.now) truth d root tree) (sym c.requires) u) b))
