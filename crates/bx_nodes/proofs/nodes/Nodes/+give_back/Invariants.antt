use Rattle.std.proofs.Common.{length}
use Rattle.bx_nodes.proofs.nodes.Nodes.+give_back.Given as goal

abbrev pub decreases-give_back : goal.decreases-give_back
decreases-give_back g l = length (g.O.Owners.asks l.self.now.owners l.node)
