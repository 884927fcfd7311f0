use Rattle.std.proofs.Common.{ℕ, sym, subst, add-one}
use Rattle.bx_ready.specs.Descents.{LeadsTo, begins, down}
use Rattle.bx_ready.proofs.descents.descend.Goals as goal

pub loop-step-init : goal.loop-step-init
loop-step-init g c = begins

pub loop-step-preserved : goal.loop-step-preserved
loop-step-preserved g c =
    subst (λ (depth : ℕ). LeadsTo (g.V.View.held c.args.view.now) c.args.root c.args.key.now depth c.in-Goes.next) (sym (add-one c.loop-step.step))
    (down c.loop-step.step c.loop-step.handle c.in-Goes.next c.loop-step.invariant c.in-Goes.ensures)
