use Rattle.bx_tree_parts.proofs.Indexed.{number_after}
use Rattle.bx_tree_parts.proofs.name_index.NameIndex.take.Goals as goal

pub returns-clause-gone : goal.returns-clause-gone
returns-clause-gone c = number_after c.args.name.now c.args.self.now.by_name c.remove.new.self _ c.remove.ensures.updates
