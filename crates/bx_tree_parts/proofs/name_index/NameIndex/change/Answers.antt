use Rattle.std.proofs.Common.{Some}
use Rattle.bx_tree_parts.proofs.Indexed.{number_after}
use Rattle.bx_tree_parts.proofs.name_index.NameIndex.change.Goals as goal

pub returns : goal.returns
returns c =
    number_after c.args.name.now c.args.self.now.by_name (c.get_mut.follows.lender c.args.number) (Some c.args.number) ((c.get_mut.follows.holds c.args.number).3 c.requires)
