use Rattle.std.proofs.Common.{ℕ, List, ◌∙◌, ap}
use Rattle.bx_tree_parts.specs.Given.{with_handle}
use Rattle.bx_tree_parts.proofs.GivenOut.{seen_with}
use Rattle.bx_tree_parts.proofs.handles.Handles.insert.Goals as goal

pub returns-clause-ok : goal.returns-clause-ok
returns-clause-ok c =
    c.in_ok-insert.ensures.keys ∙ seen_with c.args.handle c.self.inside.numbers.keys ∙ ap (λ (handles : List ℕ). with_handle handles c.args.handle) c.self.view_is
