use Rattle.std.proofs.Common.{◌≡◌, ℕ, length, IfSome}
use Rattle.std.specs.Prelude.{slice_get}
use Rattle.bx_nodes.specs.Opening.{IsFirst}
use Rattle.bx_nodes.proofs.nodes.first_machines.Given as goal

abbrev pub invariant-loop : goal.invariant-loop
invariant-loop l = record { counted : length l.machines.items ≡ l.counter; first : (node : ℕ) → IfSome (slice_get l.machines.items node) (IsFirst l.devices l.areas) }
