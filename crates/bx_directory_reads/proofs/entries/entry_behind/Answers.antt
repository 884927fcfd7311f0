use Rattle.std.proofs.Common.{inl, refl}
use Rattle.bx_directory_reads.proofs.Followed.{follows, need_follows}
use Rattle.bx_directory_reads.proofs.RunSlots.{run_block}
use Rattle.bx_dirs.specs.Entries.{key_behind}
use Rattle.bx_directory_reads.proofs.entries.entry_behind.Goals as goal

pub returns-in-Ok-clause-list : goal.returns-in-Ok-clause-list
returns-in-Ok-clause-list g c = λ truth names has. follows names c.args.number c.in-Ok.found (c.in-Ok.ensures.list c.args.areas truth names has)

pub returns-in-Err-Need-clause-list : goal.returns-in-Err-Need-clause-list
returns-in-Err-Need-clause-list g c = λ truth names has.
    need_follows names c.args.number c.args.areas c.in-Err-Need.at c.needed.result c.needed.ensures
    (run_block c.args.areas (g.V.View.held c.args.view.now) (g.V.View.hints c.args.view.now) truth c.args.root has.tree c.args.root (key_behind c.args.number) c.in-Err-Need.at _ has.under (inl refl) (rw c.in-Err-Need.field-0-is at c.in-Err-Need.ensures.fair).1)

pub returns-in-Err-Stale-clause-list : goal.returns-in-Err-Stale-clause-list
returns-in-Err-Stale-clause-list g c = λ truth names has. absurd (rw c.in-Err-Stale.field-0-is at (c.in-Err-Stale.ensures.list c.args.areas truth names has))
