-- A call that comes to a node.
use Rattle.std.specs.Prelude.{◌≡◌, ◌⊎◌, ◌↔◌, ◌<◌, [], ◌∷◌, ◌++◌}
use Rattle.bx_node_tries.specs.declared.round.Waiting.{Waiting}
use Rattle.bx_node_steps.specs.Calls.{AreApart, CallOf, WaitsAt, call_of}
use Rattle.bx_node_steps.specs.declared.machine.Machine.{Machine}

-- it is newer than each that waits
abbrev pub IsNewest : Waiting → Machine → Type 0
IsNewest call machine = (other : CallOf) → WaitsAt machine other → other.number < call.number

-- It waits then, and so do those that waited.
pub record AddsCall (call : Waiting) (old new : Machine) : Type 0 where
  pub each : (other : CallOf) → WaitsAt new other ↔ (WaitsAt old other ⊎ (call_of call ≡ other))
  pub apart : AreApart new

-- A call is put behind those that wait.
pub record WaitsBehind (call : Waiting) (old new : Machine) : Type 0 where
  pub only : new ≡ record old { calls = new.calls }
  pub calls : new.calls.items ≡ old.calls.items ++ call ∷ []
