-- What a tidy comes to, and what it waits for.
use Rattle.std.specs.Prelude.{◌≡◌, ℕ, true, List, Option, Some, None, IfSome, IsSome}
use Rattle.std.specs.List.{AllByRecursion}
use Rattle.bx_base.specs.declared.names.Mode.{Mode}
use Rattle.bx_facts.specs.Writes.{Sent}
use Rattle.bx_node_cache.specs.Kept.{held_in, hint_in}
use Rattle.bx_node_steps.specs.Calls.{CallOf, WaitsAt}
use Rattle.bx_node_steps.specs.Tidying.{area_of}
use Rattle.bx_node_steps.specs.declared.machine.Machine.{Machine}
use Rattle.bx_node_steps.specs.declared.machine.Stage.TheVariants.{Idle}
use Rattle.bx_node_steps.specs.declared.machine.Tidy.{Tidy}
use Rattle.bx_nodes.specs.Asks.{KeepsUnwanted}
use Rattle.bx_views.specs.Attempts.{IsFairNeed}
use Rattle.bx_views.specs.declared.engine.Engine as engine

-- Where there was a tidy and there is none any more, its area is clean.
abbrev pub CleansArea : (ℕ → Type 0) → ℕ → Option Tidy → Option Tidy → Type 0
CleansArea IsClean areas None then_is = Unit {0}
CleansArea IsClean areas (Some tidy) None = IsClean (area_of areas tidy)
CleansArea IsClean areas (Some tidy) (Some later) = Unit {0}

-- Why a tidy isn't over at the end of a turn: it rests; a call waits; the log is at work; a write is out; or it wants blocks for its area, over what the node had then,
-- for each of which something is out, and all else is kept.
pub data HoldsUp {E T : Type 0} (e : engine.Ghosts E T) (engine_is : E) (out : Option Sent) (IsAsked : ℕ → Type 0) (machine : Machine) (tidy : Tidy) : Type 0 where
  Rested : tidy.rests ≡ true → HoldsUp e engine_is out IsAsked machine tidy
  Calls : (call : CallOf) → WaitsAt machine call → HoldsUp e engine_is out IsAsked machine tidy
  AtWork : (machine.stage ≡ Idle → ⊥) → HoldsUp e engine_is out IsAsked machine tidy
  Writes : IsSome out → HoldsUp e engine_is out IsAsked machine tidy
  Wants : (middle : Machine) (wants : List (ℕ × Mode))
      → IsFairNeed (e.areas engine_is) (held_in middle.cache.kept) (e.tidy_path engine_is (area_of machine.cache.areas tidy) (held_in middle.cache.kept) (hint_in middle.cache.hinted)) wants
      → AllByRecursion (λ wanted. IsAsked wanted.0) wants → KeepsUnwanted wants middle machine → HoldsUp e engine_is out IsAsked machine tidy

-- So where one is.
abbrev pub IsHeldUp : {E T : Type 0} → engine.Ghosts E T → E → Option Sent → (ℕ → Type 0) → Machine → Type 0
IsHeldUp e engine_is out IsAsked machine = IfSome machine.tidy (HoldsUp e engine_is out IsAsked machine)
