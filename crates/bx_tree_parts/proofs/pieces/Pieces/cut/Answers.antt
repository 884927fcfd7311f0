use Rattle.bx_tree_parts.proofs.Updated.{is_cut, taken_whole}
use Rattle.bx_tree_parts.proofs.pieces.Pieces.cut.Goals as goal

pub clear-requires-clause-whole : goal.clear-requires-clause-whole
clear-requires-clause-whole c = taken_whole c.args.self.now.by_index c.take_from.new.self.by_index c.take_from.new.self.by_index c.args.size c.take_from.ensures.below c.take_from.ensures.gone c.requires.whole

pub returns-clause-cleared : goal.returns-clause-cleared
returns-clause-cleared c =
    is_cut c.args.self.now.by_index c.take_from.new.self.by_index c.clear.new.self.by_index c.args.size c.take_from.ensures.below c.take_from.ensures.gone c.clear.ensures.before c.clear.ensures.here c.clear.ensures.behind
