use Rattle.std.proofs.Common.{Option, sym, ap}
use Rattle.std.specs.Prelude.{is_some}
use Rattle.bx_layout.specs.declared.block.Block.{Block}
use Rattle.bx_chunks.specs.Allocating.{first, second}
use Rattle.bx_chunks.proofs.taking.lacks_one_of.Goals as goal

pub returns-in-None-clause-some : goal.returns-in-None-clause-some
returns-in-None-clause-some g c = first (sym c.in-None.ensures)

pub returns-in-None-block-clause-some : goal.returns-in-None-block-clause-some
returns-in-None-block-clause-some g c = second (ap (λ (o : Option Block). is_some o) (sym c.in-Some.ensures)) (sym c.in-None-block.ensures)
