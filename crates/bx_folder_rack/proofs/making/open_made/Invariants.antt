use Rattle.std.proofs.Common.{◌≡◌, length}
use Rattle.bx_folder_rack.proofs.making.open_made.Given as goal

abbrev pub invariant-loop-disk : goal.invariant-loop-disk
invariant-loop-disk g l = length l.disks.items ≡ l.disk
