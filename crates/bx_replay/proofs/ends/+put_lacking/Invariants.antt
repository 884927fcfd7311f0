use Rattle.std.proofs.Common.{length}
use Rattle.bx_replay.proofs.ends.+put_lacking.Given as goal

abbrev pub decreases-put_lacking : goal.decreases-put_lacking
decreases-put_lacking g l = length l.points.now
