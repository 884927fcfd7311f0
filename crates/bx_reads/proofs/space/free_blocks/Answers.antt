use Rattle.std.proofs.Common.{arith}
use Rattle.bx_reads.proofs.FreeSpace.{free_most}
use Rattle.bx_reads.proofs.space.free_blocks.Goals as goal

pub overflow_cast-result : goal.overflow_cast-result
overflow_cast-result g c = let most = free_most (g.V.View.held c.args.view.now) c.args.areas c.in-Ok.free c.requires c.in-Ok.ensures.at in omega (arith, most)

pub returns-in-Ok-clause-most : goal.returns-in-Ok-clause-most
returns-in-Ok-clause-most g c = free_most (g.V.View.held c.args.view.now) c.args.areas c.in-Ok.free c.requires c.in-Ok.ensures.at
