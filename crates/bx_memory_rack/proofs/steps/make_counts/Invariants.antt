use Rattle.std.proofs.Common.{◌≡◌, ◌≤◌, ◌-◌, ℕ, length}
use Rattle.std.specs.Prelude.{slice_index}
use Rattle.bx_memory_rack.proofs.steps.make_counts.Given as goal

abbrev pub invariant-loop-by_disk : goal.invariant-loop-by_disk
invariant-loop-by_disk l = record {
  counts : (d : ℕ) → slice_index l.by_disk.items d ≡ slice_index l.fn.by_disk.items d;
  longer : length l.fn.by_disk.items ≤ length l.by_disk.items;
}

abbrev pub decreases-loop-by_disk : goal.decreases-loop-by_disk
decreases-loop-by_disk l = l.disks - length l.by_disk.items
