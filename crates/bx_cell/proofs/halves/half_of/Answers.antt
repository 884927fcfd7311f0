use Rattle.bx_cell.proofs.Reading.{half_some, half_none}
use Rattle.bx_cell.proofs.halves.half_of.Goals as goal

pub returns-clause-some : goal.returns-clause-some
returns-clause-some c = half_some c.args.bytes.now c.args.half c.head_of.result c.requires.half c.requires.size c.head_of.ensures.some

pub returns-clause-none : goal.returns-clause-none
returns-clause-none c = half_none c.args.bytes.now c.args.half c.head_of.result c.requires.half c.requires.size c.head_of.ensures.none
