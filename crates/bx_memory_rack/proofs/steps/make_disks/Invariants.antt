use Rattle.std.proofs.Common.{◌≡◌, ℕ, length}
use Rattle.std.specs.Prelude.{slice_get, slice_index, Some}
use Rattle.bx_memory_rack.specs.Memory.{IsBlank, owed}
use Rattle.bx_memory_rack.specs.declared.mem_disk.MemDisk.{MemDisk}
use Rattle.bx_memory_rack.proofs.steps.make_disks.Given as goal

abbrev pub invariant-loop-size : goal.invariant-loop-size
invariant-loop-size l = record {
  long : length l.disks.items ≡ l.size-index;
  each : (d : ℕ) (disk : MemDisk) → slice_get l.disks.items d ≡ Some disk → IsBlank disk (slice_index l.sizes d) l.fn.synced;
  none : owed l.disks.items ≡ 0;
}
