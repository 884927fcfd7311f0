use Rattle.std.proofs.Common.{inl, inr}
use Rattle.std.proofs.lemmas.Result.{IfOk-weaker}
use Rattle.bx_attempts.specs.Paths.{ChangePathOf}
use Rattle.bx_engine.proofs.Along.{fair_along}
use Rattle.bx_engine.specs.Paths.{PathOf, ReadPathOf}
use Rattle.bx_attempts.specs.First.{PreparesFirst, ReadyBy}
use Rattle.bx_engine.proofs.First.{quiet_first, quiet_ready}
use Rattle.bx_engine.proofs.Fullness.{change_lacks, enough_lacks}
use Rattle.bx_engine.specs.Full.{LacksRoom}
use Rattle.bx_engine.proofs.engine.BoxFs.attempt_call.Goals as goal

pub returns-then-is_change-clause-fair : goal.returns-then-is_change-clause-fair
returns-then-is_change-clause-fair g c =
    let fs = c.args.self.now in
    let held = g.V.View.held c.args.view.now in
    let hints = g.V.View.hints c.args.view.now in
    let call = c.args.call.now in
    IfOk-weaker c.change.result _ _ (λ attempt is. fair_along (ChangePathOf held hints fs.volume fs.areas call.procedure call.args) (PathOf held hints fs.volume fs.areas call.procedure call.args) (λ at mode on. inr on) fs.areas held attempt is.fair) c.change.ensures

pub returns-else-is_change-clause-fair : goal.returns-else-is_change-clause-fair
returns-else-is_change-clause-fair g c =
    let fs = c.args.self.now in
    let held = g.V.View.held c.args.view.now in
    let hints = g.V.View.hints c.args.view.now in
    let call = c.args.call.now in
    IfOk-weaker c.answer.result _ _ (fair_along (ReadPathOf held hints fs.volume fs.areas call.procedure call.args) (PathOf held hints fs.volume fs.areas call.procedure call.args) (λ at mode on. inl on) fs.areas held) c.answer.ensures.fair

pub returns-else-is_change-clause-gives : goal.returns-else-is_change-clause-gives
returns-else-is_change-clause-gives g c = λ client bytes truth tree reads same s. c.answer.ensures.gives client c.args.moment bytes truth tree c.requires.moment reads same s

pub returns-else-is_change-clause-lacks : goal.returns-else-is_change-clause-lacks
returns-else-is_change-clause-lacks g c = λ truth tree same s.
    let fs = c.args.self.now in
    IfOk-weaker c.answer.result _ _ (quiet_first (PreparesFirst fs.volume fs.areas (g.V.View.held c.args.view.now) (g.V.View.hints c.args.view.now) truth tree c.args.call.now c.args.moment)) c.answer.ensures.keeps

pub returns-else-is_change-clause-ready : goal.returns-else-is_change-clause-ready
returns-else-is_change-clause-ready g c = λ truth tree same s.
    let fs = c.args.self.now in
    IfOk-weaker c.answer.result _ _ (quiet_ready (ReadyBy fs.volume fs.areas truth tree c.args.call.now.procedure c.args.call.now.args)) c.answer.ensures.keeps

pub returns-then-is_change-clause-full : goal.returns-then-is_change-clause-full
returns-then-is_change-clause-full g c = λ none.
    let fs = c.args.self.now in
    IfOk-weaker c.change.result _ _ (λ attempt is. change_lacks (g.V.View.held c.args.view.now) (g.V.View.hints c.args.view.now) fs.volume fs.areas c.args.call.now (c.is_change.ensures.0 c.if-is_change.true) attempt is.full) c.change.ensures

pub returns-else-is_change-clause-full : goal.returns-else-is_change-clause-full
returns-else-is_change-clause-full g c = λ none.
    let fs = c.args.self.now in
    IfOk-weaker c.answer.result _ _ (enough_lacks (LacksRoom (g.V.View.held c.args.view.now) (g.V.View.hints c.args.view.now) fs.volume fs.areas c.args.call.now)) (c.answer.ensures.enough none)

pub returns-then-is_change-clause-gives : goal.returns-then-is_change-clause-gives
returns-then-is_change-clause-gives g c = λ client bytes truth tree reads same s. IfOk-weaker c.change.result _ _ (λ attempt is. is.gives client bytes truth tree reads same s) c.change.ensures

pub returns-then-is_change-clause-lacks : goal.returns-then-is_change-clause-lacks
returns-then-is_change-clause-lacks g c = λ truth tree same s. IfOk-weaker c.change.result _ _ (λ attempt is. is.lacks truth tree same s) c.change.ensures

pub returns-then-is_change-clause-ready : goal.returns-then-is_change-clause-ready
returns-then-is_change-clause-ready g c = λ truth tree same s. IfOk-weaker c.change.result _ _ (λ attempt is. is.ready truth tree same s) c.change.ensures
