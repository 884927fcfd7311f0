-- Nodes as they begin.
use Rattle.std.specs.Prelude.{ℕ}
use Rattle.bx_node_steps.specs.Calls.{AreApart, CallOf, WaitsAt}
use Rattle.bx_node_steps.specs.declared.machine.Machine.{Machine}
use Rattle.bx_nodes.specs.Stopping.{HasNothing}

-- A node of a volume of so many devices and areas has nothing, and no call waits there.
pub record IsFirst (devices areas : ℕ) (machine : Machine) : Type 0 where
  pub has : HasNothing devices areas machine
  pub none_wait : (call : CallOf) → WaitsAt machine call → ⊥
  pub apart : AreApart machine
