use Rattle.std.proofs.Common.{rules}
use Rattle.bx_leaves.proofs.Done.{removes_in}
use Rattle.bx_leaves.proofs.Fair.{removes_fair, removes_held}
use Rattle.bx_leaves.proofs.entries.remove.Goals as goal

pub returns-in_err-handle-clause-ends : goal.returns-in_err-handle-clause-ends
returns-in_err-handle-clause-ends g c = search rules

pub returns-in_err-handle-clause-map : goal.returns-in_err-handle-clause-map
returns-in_err-handle-clause-map g c = λ areas truth tree u.
    removes_in areas (g.V.View.held c.args.view.now) (g.V.View.hints c.args.view.now) truth c.args.draft.now c.args.draft.now c.args.root tree c.args.key.now u c.from_residual.result (returns-in_err-handle-clause-ends g c)

pub returns-in_err-handle-clause-fair : goal.returns-in_err-handle-clause-fair
returns-in_err-handle-clause-fair g c =
    removes_fair (g.V.View.held c.args.view.now) (g.V.View.hints c.args.view.now) c.args.draft.now c.args.root c.args.key.now (g.met.V.View.shares c.args.view.now) c.args.draft.now c.from_residual.result (returns-in_err-handle-clause-ends g c)

pub returns-in_err-handle-clause-held : goal.returns-in_err-handle-clause-held
returns-in_err-handle-clause-held g c = λ before.
    removes_held (g.V.View.held c.args.view.now) (g.V.View.hints c.args.view.now) c.args.draft.now c.args.draft.now c.args.root c.args.key.now before c.from_residual.result (returns-in_err-handle-clause-ends g c)

pub returns-clause-ends : goal.returns-clause-ends
returns-clause-ends g c = search rules

pub returns-clause-map : goal.returns-clause-map
returns-clause-map g c = λ areas truth tree u.
    removes_in areas (g.V.View.held c.args.view.now) (g.V.View.hints c.args.view.now) truth c.args.draft.now c.put_bytes.new.draft c.args.root tree c.args.key.now u c.put_bytes.result (returns-clause-ends g c)

pub returns-clause-fair : goal.returns-clause-fair
returns-clause-fair g c =
    removes_fair (g.V.View.held c.args.view.now) (g.V.View.hints c.args.view.now) c.args.draft.now c.args.root c.args.key.now (g.met.V.View.shares c.args.view.now) c.put_bytes.new.draft c.put_bytes.result (returns-clause-ends g c)

pub returns-clause-held : goal.returns-clause-held
returns-clause-held g c = λ before.
    removes_held (g.V.View.held c.args.view.now) (g.V.View.hints c.args.view.now) c.args.draft.now c.put_bytes.new.draft c.args.root c.args.key.now before c.put_bytes.result (returns-clause-ends g c)
