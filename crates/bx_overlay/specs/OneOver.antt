-- One block stands with a number.
use Rattle.std.specs.Prelude.{◌≡◌, ℕ, List, Option, Some, None}
use Rattle.std.proofs.Common.{sym, ◌∙◌}
use Rattle.bx_disk.specs.Disks.{Image}
use Rattle.bx_layout.specs.declared.block.Block.{Block}
use Rattle.bx_volume.proofs.OneTruth.{one_home}
use Rattle.bx_logs.specs.Newest.{Newest, first_in}
use Rattle.bx_overlay.specs.Over.{OrHome, StandsOver}

pub one_over : (held : Image) (devices : ℕ) (logs : List Newest) (at : ℕ) (a b : Block) → StandsOver held devices logs at a → StandsOver held devices logs at b → a ≡ b
one_over held devices logs at a b = by (first_in logs at)
  where
    by : (newest : Option Block) → OrHome newest held devices at a → OrHome newest held devices at b → a ≡ b
    by (Some block) is_a is_b = is_a ∙ sym is_b
    by None is_a is_b = one_home held devices at a b is_a is_b
