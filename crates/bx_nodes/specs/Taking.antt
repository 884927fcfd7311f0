-- What a machine makes of an input that it is handed.
use Rattle.std.specs.Prelude.{◌≡◌, ◌⊎◌, IfSome, Option, Some}
use Rattle.std.specs.Option.{option_or}
use Rattle.bx_facts.specs.Chains.{GrowsBy, last}
use Rattle.bx_facts.specs.Inputs.{greatest_with}
use Rattle.bx_facts.specs.declared.input.Input.{Input}
use Rattle.bx_global.specs.declared.change.Change.{Change}
use Rattle.bx_global.specs.declared.state.GlobalState.{GlobalState}
use Rattle.bx_node_events.specs.Works.{KeepsWorks}
use Rattle.bx_world_standing.specs.Parts.{Clocks}
use Rattle.bx_world_standing.specs.Standing.{Course}

-- the clocks, with the reading of an input
abbrev pub with_reading : Clocks → Input → Clocks
with_reading clocks input = record clocks { greatest = greatest_with clocks.greatest input }

-- A change that was offered is proposed, or it isn't, and none is where none was offered; then this holds.
pub record Proposes (offer : Option Change) (Holds_then : Option Change → Type 0) : Type 0 where
  pub proposal : Option Change
  pub is_offered : (change : Change) → proposal ≡ Some change → offer ≡ Some change
  pub holds : Holds_then proposal

-- There is a later course, whose chain is as it was or grew by a change that was proposed before, and whose logs are as they were, with what was under way and in doubt; and what stands stands for it. The machine that
-- heard knows this state then: where the chain grew, it is the last one.
pub record Hears (known : GlobalState) (Stands_then : Course → Type 0) (c : Course) : Type 0 where
  pub later : Course
  pub grows : GrowsBy c.register.proposed c.register.chain later.register.chain
  pub told : (later.register.chain ≡ c.register.chain) ⊎ (known ≡ last later.register.chain)
  pub logs : later.logs ≡ c.logs
  pub works : KeepsWorks c later
  pub stands : Stands_then later

-- What owners and store hand back: the owners' change, or else the store's, is offered, and then this is said of it.
pub record Offers (IsChange IsShift : Option Change → Type 0) (Says : Change → Type 0) : Type 0 where
  pub change : Option Change
  pub shift : Option Change
  pub is_change : IsChange change
  pub is_shift : IsShift shift
  pub says : IfSome (option_or change shift) Says
