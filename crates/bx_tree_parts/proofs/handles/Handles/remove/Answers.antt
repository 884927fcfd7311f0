use Rattle.std.proofs.Common.{ℕ, List, ◌∙◌, ap}
use Rattle.bx_tree_parts.specs.Given.{without_handle}
use Rattle.bx_tree_parts.proofs.GivenOut.{seen_without}
use Rattle.bx_tree_parts.proofs.handles.Handles.remove.Goals as goal

pub returns : goal.returns
returns c = c.remove.ensures.keys ∙ seen_without c.args.handle c.self.inside.numbers.keys ∙ ap (λ (handles : List ℕ). without_handle handles c.args.handle) c.self.view_is
