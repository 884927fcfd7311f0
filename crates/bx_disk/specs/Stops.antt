-- Counts of faults of a rack that stops.
use Rattle.std.specs.Prelude.{ℕ, ◌+◌, ◌-◌, ◌^◌, min, List, slice_index, slice_set}
use Rattle.bx_base.specs.Faults.{count_up}

-- the faults of the rack inside and those of the calls that it didn't get, up to 2^64 - 1
abbrev pub with_failed : ℕ → ℕ → ℕ
with_failed inside failed = min (failed + inside) (2 ^ 64 - 1)

-- where the calls on a disk are counted that failed: each of the first 15 disks has a count of its own, and the others
-- share one
abbrev pub count_place : ℕ → ℕ
count_place disk = min disk 15

-- the same for each disk
abbrev pub each_with_failed : (ℕ → ℕ) → List ℕ → ℕ → ℕ
each_with_failed inside failed_on disk = with_failed (inside disk) (slice_index failed_on (count_place disk))

-- the counts once a call on a disk failed
abbrev pub counted_on : List ℕ → ℕ → List ℕ
counted_on failed_on disk = slice_set failed_on (count_place disk) (count_up (slice_index failed_on (count_place disk)))
