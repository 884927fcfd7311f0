use Rattle.std.proofs.Common.{ℕ}
use Rattle.std.proofs.lemmas.Result.{IfOk-weaker}
use Rattle.bx_chunks.specs.Counting.{free_slots}
use Rattle.bx_engine.proofs.Spaces.{space_answer, space_stops}
use Rattle.bx_engine.proofs.Stopping.{stops_fair}
use Rattle.bx_model.specs.declared.reply.Reply.{Reply}
use Rattle.bx_reads.specs.Space.{OnSpace}
use Rattle.bx_engine.proofs.engine.BoxFs.statfs.Goals as goal

pub returns-in-Ok-clause-comes : goal.returns-in-Ok-clause-comes
returns-in-Ok-clause-comes g c = λ truth tree same s.
    let fs = c.args.self.now in
    let step = c.in-Ok.ensures.step truth tree same s in
    IfOk-weaker c.answered_with.result _ _
    (λ attempt is. space_answer tree (free_slots fs.areas truth) c.args.at.now c.args.xid attempt c.in-Ok.reply c.in-Ok.free step.0 step.1 c.in-Ok.ensures.most is) (rw c.from.ensures at c.answered_with.ensures)

pub returns-in-Err-clause-comes : goal.returns-in-Err-clause-comes
returns-in-Err-clause-comes g c = λ truth tree same s.
    let fs = c.args.self.now in
    IfOk-weaker c.stopped.result _ _
    (λ attempt is. space_stops tree (free_slots fs.areas truth) c.args.at.now c.args.xid attempt c.in-Err.stop (c.in-Err.ensures.step truth tree same s) is) c.stopped.ensures

pub returns-in-Err-clause-fair : goal.returns-in-Err-clause-fair
returns-in-Err-clause-fair g c =
    let fs = c.args.self.now in
    IfOk-weaker c.stopped.result _ _
    (λ attempt is. stops_fair c.args.xid attempt (Reply × ℕ) fs.areas (g.V.View.held c.args.view.now) (OnSpace fs.volume fs.areas c.args.at.now) c.in-Err.stop c.in-Err.ensures.need c.in-Err.ensures.inner is) c.stopped.ensures
