-- What a rack in memory shows of itself: its record of writes, syncs and crashes, from which it tells the moments.
use Rattle.std.specs.Prelude.{ℕ, ◌+◌, ◌/◌, ◌%◌, ◌≤◌, ◌==◌, Bool, ◌&&◌, nat_lt, nat_le, if◌then◌else◌, List, [], ◌∷◌, ◌++◌, length, take, slice_index, slice_set}
use Rattle.std.specs.List.{list_all, list_any}
use Rattle.bx_base.specs.Faults.{count_up}
use Rattle.bx_disk.specs.Disks.{Image, Disks, IsImage, written, synced, shaped, blanked}
use Rattle.bx_disk.specs.Crash.{crashed}
use Rattle.bx_disk.specs.declared.entry.Entry.{Entry}
use Rattle.bx_disk.specs.declared.entry.Entry.TheVariants.{Wrote, Synced, Shaped, Crashed, Blanked}

-- The sizes of the first disks, what was done since, the calls so far, the numbers of the calls that fail, and the
-- faults so far, in all and of each disk.
pub record Past : Type 0 where
  pub first : List ℕ
  pub entries : List Entry
  pub calls : ℕ
  pub failing : List ℕ
  pub faults : ℕ
  pub by_disk : List ℕ

-- whether the bytes are whole sectors that the disk has
abbrev pub fits : List ℕ → ℕ → ℕ → List ℕ → Bool
fits sizes disk sector bytes =
    (length bytes % 512 == 0) && nat_le (sector + length bytes / 512) (slice_index sizes disk)
    && list_all (λ b. nat_lt b 256) bytes

-- the disks after one entry; one that doesn't fit them changes nothing
abbrev pub after_entry : Disks → Entry → Disks
after_entry disks (Wrote disk sector bytes) =
    if fits disks.sizes disk sector bytes then written disks disk sector bytes else disks
after_entry disks (Synced disk) = synced disks disk
after_entry disks (Shaped sizes) = shaped sizes
after_entry disks (Crashed disk how) = crashed disks disk how
after_entry disks (Blanked disk) = blanked disks disk

-- the disks after these entries, the oldest first
abbrev pub after_entries : Disks → List Entry → Disks
after_entries disks [] = disks
after_entries disks (entry ∷ entries) = after_entries (after_entry disks entry) entries

-- the disks after so many entries
abbrev pub disks_at : Past → ℕ → Disks
disks_at past k = after_entries (shaped past.first) (take k past.entries)

-- the disks now
abbrev pub disks_of : Past → Disks
disks_of past = after_entries (shaped past.first) past.entries

abbrev pub moment_of : Past → ℕ
moment_of past = length past.entries

-- a crash at a moment from that one on might have left this
pub record LeftSince (past : Past) (from : ℕ) (image : Image) : Type 0 where
  pub at : ℕ
  pub late : from ≤ at
  pub over : at ≤ length past.entries
  pub leaves : IsImage (disks_at past at) image

-- whether the next call fails
abbrev pub fails : Past → Bool
fails past = list_any (λ n. n == count_up past.calls) past.failing

-- one call more, which succeeds with no entry
abbrev pub counted : Past → Past
counted past = record {
  first = past.first;
  entries = past.entries;
  calls = count_up past.calls;
  failing = past.failing;
  faults = past.faults;
  by_disk = past.by_disk;
}

-- one call more, with an entry
abbrev pub noted : Past → Entry → Past
noted past entry = record {
  first = past.first;
  entries = past.entries ++ entry ∷ [];
  calls = count_up past.calls;
  failing = past.failing;
  faults = past.faults;
  by_disk = past.by_disk;
}

-- the same with another record
abbrev pub with_entries : Past → List Entry → Past
with_entries past entries = record {
  first = past.first;
  entries = entries;
  calls = past.calls;
  failing = past.failing;
  faults = past.faults;
  by_disk = past.by_disk;
}

-- the same with other counts by disk
abbrev pub with_counts : Past → List ℕ → Past
with_counts past by_disk = record {
  first = past.first;
  entries = past.entries;
  calls = past.calls;
  failing = past.failing;
  faults = past.faults;
  by_disk = by_disk;
}

-- one call more, which failed on a disk
abbrev pub failed_on : Past → ℕ → Past
failed_on past disk = record {
  first = past.first;
  entries = past.entries;
  calls = count_up past.calls;
  failing = past.failing;
  faults = count_up past.faults;
  by_disk = slice_set past.by_disk disk (count_up (slice_index past.by_disk disk));
}

-- one call more, which failed on no disk
abbrev pub failed : Past → Past
failed past = record {
  first = past.first;
  entries = past.entries;
  calls = count_up past.calls;
  failing = past.failing;
  faults = count_up past.faults;
  by_disk = past.by_disk;
}
