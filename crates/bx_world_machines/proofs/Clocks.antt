-- Readings of the clock.
use Rattle.std.proofs.Common.{ℕ, arith}
use Rattle.bx_facts.specs.Inputs.{IsSteady, greatest_with}
use Rattle.bx_facts.specs.declared.input.Input.{Input}
use Rattle.bx_facts.specs.declared.input.Input.TheVariants.{Packet, Synced, Tick}

-- what was steady is so once it was read
pub steady_then : (greatest : ℕ) (input : Input) → IsSteady greatest input → IsSteady (greatest_with greatest input) input
steady_then greatest (Packet packet reading) steady = omega (arith, steady)
steady_then greatest (Tick reading) steady = omega (arith, steady)
steady_then greatest Synced steady = tt
