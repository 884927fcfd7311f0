-- Which calls may act yet at the nodes, and of which the gates of their records may have been sent.
use Rattle.std.specs.Prelude.{◌≡◌, ◌⊎◌, ℕ, List, IsSomeAnd, slice_get}
use Rattle.bx_node_calls.specs.Turns.{session_at}
use Rattle.bx_node_steps.specs.Calls.{IsOpening, IsToAct}
use Rattle.bx_node_steps.specs.declared.machine.Machine.{Machine}

-- the call with a number may act yet at a node
abbrev pub MayActAt : List Machine → ℕ → ℕ → Type 0
MayActAt machines node number = IsSomeAnd (slice_get machines node) (λ machine. IsToAct machine number)

-- the gate of its record may have been sent there
abbrev pub OpensAt : List Machine → ℕ → ℕ → Type 0
OpensAt machines node number = IsSomeAnd (slice_get machines node) (λ machine. IsOpening machine number)

-- It may have been sent before, under the session that the node has still.
pub record OpenStill (old new : List Machine) (node number : ℕ) : Type 0 where
  pub opened : OpensAt old node number
  pub session : session_at new node ≡ session_at old node

-- A call that may act then might before; and one of which the gate may have been sent then is such a one, or one of which it may have been sent before.
pub record ActThen (old new : List Machine) : Type 0 where
  pub to_act : (node number : ℕ) → MayActAt new node number → MayActAt old node number
  pub opening : (node number : ℕ) → OpensAt new node number → MayActAt old node number ⊎ OpenStill old new node number
