-- Writes of the homes of a log's blocks.
use Rattle.std.specs.Prelude.{◌≡◌, ℕ, ◌-◌, ◌/◌, if◌then◌else◌, List, [], ◌∷◌, Contains, length, Some}
use Rattle.bx_disk.specs.Disks.{Image, is_within, sector_of}
use Rattle.bx_layout.specs.declared.block.Block.{Block}
use Rattle.bx_layout.specs.Blocks.{HasParts, block_text}
use Rattle.bx_places.specs.Places.{IsBlock, block_place}
use Rattle.bx_records.specs.declared.runs.Run.{Run}
use Rattle.bx_volume.specs.Overlay.{Logs}
use Rattle.bx_volume.specs.Records.{newest_in}

-- the run that writes a block into its home
abbrev pub home_run : ℕ → ℕ → Block → Run
home_run devices at block = record { device = (block_place at devices).0; place = (block_place at devices).1; bytes = block_text block }

-- the run writes a block of the log, the newest of its number, into its home
pub record IsItsHome (devices areas : ℕ) (logs : Logs) (slot : ℕ) (run : Run) : Type 0 where
  pub at : ℕ
  pub is : IsBlock areas at
  pub block : Block
  pub parts : HasParts block
  pub newest : newest_in (logs slot) at ≡ Some block
  pub run_is : run ≡ home_run devices at block

-- The runs write the blocks of the log into their homes: all of them, and nothing else.
pub record AreItsHomes (devices areas : ℕ) (logs : Logs) (slot : ℕ) (runs : List Run) : Type 0 where
  pub each : (run : Run) → Contains runs run → IsItsHome devices areas logs slot run
  pub all : (at : ℕ) (block : Block) → IsBlock areas at → newest_in (logs slot) at ≡ Some block → Contains runs (home_run devices at block)

-- what devices hold once runs are written; of two that have a sector the first counts
abbrev pub with_runs : Image → List Run → Image
with_runs before [] d s = before d s
with_runs before (run ∷ runs) d s = if is_within run.device run.place (length run.bytes / 512) d s then sector_of run.bytes (s - run.place) else with_runs before runs d s
