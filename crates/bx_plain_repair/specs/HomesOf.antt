-- The homes of the blocks that a log has, in a volume of one area.
use Rattle.std.specs.Prelude.{◌≡◌, ℕ, ◌<◌, List, Contains, Option, Some}
use Rattle.bx_layout.specs.declared.block.Block.{Block}
use Rattle.bx_layout.specs.Blocks.{HasParts}
use Rattle.bx_logs.specs.Newest.{Newest, newest_at}
use Rattle.bx_records.specs.declared.runs.Run.{Run}
use Rattle.bx_redo.specs.Homes.{home_run}

-- the run writes a block of these, whose number is below a bound, into its home
pub record IsHomeBelow (newest : Newest) (bound : ℕ) (run : Run) : Type 0 where
  pub at : ℕ
  pub below : at < bound
  pub block : Block
  pub parts : HasParts block
  pub is : newest_at newest at ≡ Some block
  pub run_is : run ≡ home_run 1 at block

-- The runs write the blocks with numbers below a bound into their homes, and nothing else.
pub record AreHomesBelow (newest : Newest) (bound : ℕ) (runs : List Run) : Type 0 where
  pub each : (run : Run) → Contains runs run → IsHomeBelow newest bound run
  pub all : (at : ℕ) (block : Block) → at < bound → newest_at newest at ≡ Some block → Contains runs (home_run 1 at block)

-- some block of these is none that a disk may hold
pub record HasNone (newest : ℕ → Option Block) : Type 0 where
  pub at : ℕ
  pub block : Block
  pub is : newest at ≡ Some block
  pub none : HasParts block → ⊥
