use Rattle.bx_tree_parts.proofs.Paired.{first_tells, none_tells}
use Rattle.bx_tree_parts.proofs.fileids.Fileids.has.Goals as goal

pub returns-in-Some : goal.returns-in-Some
returns-in-Some c = first_tells c.args.self.now.pairs c.args.fileid c.range-from.result c.next.new.self c.in-Some.pair.now c.in-Some.ensures.steps (c.range-from.ensures.in_range tt)

pub returns-in-None : goal.returns-in-None
returns-in-None c =
    (λ never. absurd cc, λ there. absurd (none_tells c.args.self.now.pairs c.args.fileid c.range-from.result c.in-None.ensures.steps.0 (c.range-from.ensures.in_range tt) there))
