-- The blocks that the newest of logs lie over.
use Rattle.std.specs.Prelude.{◌≡◌, ℕ, List, Option, Some, None}
use Rattle.bx_disk.specs.Disks.{Image}
use Rattle.bx_layout.specs.declared.block.Block.{Block}
use Rattle.bx_logs.specs.Newest.{Newest, first_in}
use Rattle.bx_volume.specs.Overlay.{IsHome}

-- the block with a number: that of the first log that has one, or the one in its home
abbrev pub OrHome : Option Block → Image → ℕ → ℕ → Block → Type 0
OrHome (Some newest) held devices at block = block ≡ newest
OrHome None held devices at block = IsHome held devices at block

abbrev pub StandsOver : Image → ℕ → List Newest → ℕ → Block → Type 0
StandsOver held devices logs at block = OrHome (first_in logs at) held devices at block
