use Rattle.std.specs.Prelude.{slice_get}
use Rattle.bx_nodes.proofs.Machines.{count_waiting}
use Rattle.bx_nodes.proofs.nodes.Nodes.+rounds.Given as goal

abbrev pub decreases-rounds : goal.decreases-rounds
decreases-rounds g l = count_waiting (slice_get l.self.now.machines.items l.node)
