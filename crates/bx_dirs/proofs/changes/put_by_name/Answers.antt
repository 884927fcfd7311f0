use Rattle.std.proofs.Common.{ℕ, List, subst, ◌∙◌}
use Rattle.bx_truth.specs.Keys.{name_key}
use Rattle.bx_leaves.specs.Leaves.{InsertsAt}
use Rattle.bx_dirs.proofs.changes.put_by_name.Goals as goal

pub returns-clause-ends : goal.returns-clause-ends
returns-clause-ends g c =
    subst (λ (v : List ℕ). InsertsAt (g.V.View.held c.args.view.now) (g.V.View.hints c.args.view.now) c.args.draft.now c.insert.new.draft c.args.root (name_key c.args.name.now) v c.insert.result)
    (c.bytes-2.ensures ∙ c.in_ok-value.ensures)
    (subst (λ (k : List ℕ). InsertsAt (g.V.View.held c.args.view.now) (g.V.View.hints c.args.view.now) c.args.draft.now c.insert.new.draft c.args.root k c.bytes-2.result.now c.insert.result)
    (c.bytes.ensures ∙ c.in_ok-key.ensures) c.insert.ensures.ends)
