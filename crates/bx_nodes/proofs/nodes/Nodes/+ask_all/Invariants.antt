use Rattle.std.proofs.Common.{length}
use Rattle.bx_nodes.proofs.nodes.Nodes.+ask_all.Given as goal

abbrev pub decreases-ask_all : goal.decreases-ask_all
decreases-ask_all g l = length l.needs.now
