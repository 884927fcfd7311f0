use Rattle.std.proofs.Common.{◌≡◌, ◌∙◌, replicate, rules, sym}
use Rattle.bx_tree_parts.proofs.Updated.{held_keeps, held_same, held_whole}
use Rattle.bx_tree_parts.proofs.pieces.Pieces.hold.Goals as goal

pub returns-clause-keeps : goal.returns-clause-keeps
returns-clause-keeps c =
    let are : c.in_ok-zeros.zeros.items ≡ replicate 4096 0 = search rules in
    held_keeps c.args.self.now.by_index c.insert.new.self c.args.index c.in_ok-zeros.zeros c.in_ok-insert.ensures.updates (sym c.contains_key.ensures ∙ c.if-contains_key.false) are

pub returns-clause-same : goal.returns-clause-same
returns-clause-same c =
    let are : c.in_ok-zeros.zeros.items ≡ replicate 4096 0 = search rules in
    held_same c.args.self.now.by_index c.insert.new.self c.args.index c.in_ok-zeros.zeros c.in_ok-insert.ensures.updates (sym c.contains_key.ensures ∙ c.if-contains_key.false) are

pub returns-clause-whole : goal.returns-clause-whole
returns-clause-whole c =
    let are : c.in_ok-zeros.zeros.items ≡ replicate 4096 0 = search rules in
    held_whole c.args.self.now.by_index c.insert.new.self c.args.index c.in_ok-zeros.zeros c.in_ok-insert.ensures.updates (sym c.contains_key.ensures ∙ c.if-contains_key.false) are c.requires
