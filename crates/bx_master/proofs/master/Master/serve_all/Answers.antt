use Rattle.std.proofs.Common.{refl}
use Rattle.std.proofs.lemmas.List.{drop_more}
use Rattle.bx_master.proofs.Steps.{all_tried, next_tried}
use Rattle.bx_master.proofs.master.Master.serve_all.Goals as goal

pub loop-want-init : goal.loop-want-init
loop-want-init c = record { is = refl; says = refl }

pub loop-want-preserved : goal.loop-want-preserved
loop-want-preserved c = next_tried _ _ _ _ _ _ _ _ _ _ _ (drop_more c.args.wants.now c.loop-want.want-index _ c.loop-want-test.true) c.in_ok-serve_one.ensures c.loop-want.invariant

pub returns : goal.returns
returns c = all_tried _ _ _ c.loop-want.want-index _ _ _ _ c.loop-want-test.false c.loop-want.invariant
