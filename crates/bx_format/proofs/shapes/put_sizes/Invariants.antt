use Rattle.std.proofs.Common.{◌≡◌, ℕ, ◌<◌, length}
use Rattle.std.specs.Prelude.{slice_index}
use Rattle.bx_places.specs.Places.{disk_sectors}
use Rattle.bx_format.proofs.shapes.put_sizes.Given as goal

abbrev pub invariant-loop-disk : goal.invariant-loop-disk
invariant-loop-disk l = record {
  long : length l.into ≡ length l.fn.into;
  each : (disk : ℕ) → disk < l.disk → slice_index l.into disk ≡ disk_sectors l.devices l.areas disk;
}
