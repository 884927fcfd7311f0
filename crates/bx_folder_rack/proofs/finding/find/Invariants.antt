use Rattle.std.proofs.Common.{◌≡◌, ℕ, length}
use Rattle.bx_folder_rack.proofs.finding.find.Given as goal

-- each disk has a size
pub record AreFound (disk disks sizes : ℕ) : Type 0 where
  pub disks_are : disks ≡ disk
  pub sizes_are : sizes ≡ disk

abbrev pub invariant-loop-disk : goal.invariant-loop-disk
invariant-loop-disk g l = AreFound l.disk (length l.disks.items) (length l.sizes.items)
