use Rattle.std.proofs.Common.{rules}
use Rattle.bx_page.specs.Contents.{with_value}
use Rattle.bx_leaves.proofs.Steps.{put_then}
use Rattle.bx_leaves.proofs.Done.{inserts_in}
use Rattle.bx_leaves.proofs.Fair.{inserts_fair, inserts_held}
use Rattle.bx_leaves.proofs.entries.insert.Goals as goal

pub returns-in_err-handle-clause-ends : goal.returns-in_err-handle-clause-ends
returns-in_err-handle-clause-ends g c = search rules

pub returns-in_err-handle-clause-map : goal.returns-in_err-handle-clause-map
returns-in_err-handle-clause-map g c = λ areas truth tree u.
    inserts_in areas (g.V.View.held c.args.view.now) (g.V.View.hints c.args.view.now) truth c.args.draft.now c.args.draft.now c.args.root tree c.args.key.now u c.args.value.now c.from_residual.result (returns-in_err-handle-clause-ends g c)

pub returns-in_err-handle-clause-fair : goal.returns-in_err-handle-clause-fair
returns-in_err-handle-clause-fair g c =
    inserts_fair (g.V.View.held c.args.view.now) (g.V.View.hints c.args.view.now) c.args.draft.now c.args.root c.args.key.now (g.met.V.View.shares c.args.view.now) c.args.draft.now c.args.value.now c.from_residual.result (returns-in_err-handle-clause-ends g c)

pub returns-in_err-handle-clause-held : goal.returns-in_err-handle-clause-held
returns-in_err-handle-clause-held g c = λ before.
    inserts_held (g.V.View.held c.args.view.now) (g.V.View.hints c.args.view.now) c.args.draft.now c.args.draft.now c.args.root c.args.key.now before c.args.value.now c.from_residual.result (returns-in_err-handle-clause-ends g c)

pub returns-clause-ends : goal.returns-clause-ends
returns-clause-ends g c =
    let leaf = c.in_ok-handle.ensures in
    put_then (g.V.View.held c.args.view.now) (g.V.View.hints c.args.view.now) c.args.draft.now c.put_bytes.new.draft c.args.root c.args.key.now c.args.value.now c.in_ok-handle.handle leaf.page leaf.takes
    c.put_bytes.result (c.put_bytes.ensures.puts (with_value leaf.page c.args.key.now c.args.value.now) leaf.spells)

pub returns-clause-map : goal.returns-clause-map
returns-clause-map g c = λ areas truth tree u.
    inserts_in areas (g.V.View.held c.args.view.now) (g.V.View.hints c.args.view.now) truth c.args.draft.now c.put_bytes.new.draft c.args.root tree c.args.key.now u c.args.value.now c.put_bytes.result (returns-clause-ends g c)

pub returns-clause-fair : goal.returns-clause-fair
returns-clause-fair g c =
    inserts_fair (g.V.View.held c.args.view.now) (g.V.View.hints c.args.view.now) c.args.draft.now c.args.root c.args.key.now (g.met.V.View.shares c.args.view.now) c.put_bytes.new.draft c.args.value.now c.put_bytes.result (returns-clause-ends g c)

pub returns-clause-held : goal.returns-clause-held
returns-clause-held g c = λ before.
    inserts_held (g.V.View.held c.args.view.now) (g.V.View.hints c.args.view.now) c.args.draft.now c.put_bytes.new.draft c.args.root c.args.key.now before c.args.value.now c.put_bytes.result (returns-clause-ends g c)
