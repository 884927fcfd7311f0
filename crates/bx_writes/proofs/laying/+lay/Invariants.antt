use Rattle.std.proofs.Common.{length}
use Rattle.bx_writes.proofs.laying.+lay.Given as goal

abbrev pub decreases-lay : goal.decreases-lay
decreases-lay g l = length l.written.now
