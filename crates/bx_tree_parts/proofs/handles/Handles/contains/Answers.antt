use Rattle.std.proofs.Common.{ℕ, List, eqb, ◌∙◌, ap}
use Rattle.std.specs.List.{list_any}
use Rattle.bx_tree_parts.proofs.GivenOut.{among}
use Rattle.bx_tree_parts.proofs.handles.Handles.contains.Goals as goal

pub returns : goal.returns
returns c = c.contains.ensures ∙ among c.args.handle c.self.inside.numbers.keys ∙ ap (λ (handles : List ℕ). list_any (λ other. eqb other c.args.handle) handles) c.self.view_is
