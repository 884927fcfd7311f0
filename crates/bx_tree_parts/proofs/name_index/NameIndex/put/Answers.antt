use Rattle.std.proofs.Common.{List, ℕ, Some, cond, ap, ◌∙◌}
use Rattle.std.specs.Prelude.{bytes_eq}
use Rattle.bx_tree_parts.specs.NameIndex.{number_in}
use Rattle.bx_tree_parts.proofs.Indexed.{number_after}
use Rattle.bx_tree_parts.proofs.name_index.NameIndex.put.Goals as goal

pub returns-clause-ok : goal.returns-clause-ok
returns-clause-ok c = λ other.
    number_after c.in_ok-name.name.items c.args.self.now.by_name c.insert.new.self (Some c.args.number) c.in_ok-insert.ensures.updates other
    ∙ ap (λ (name : List ℕ). cond (bytes_eq name other) (Some c.args.number) (number_in c.args.self.now other)) c.in_ok-name.ensures.items
