-- A rack in memory, by its record.
use Rattle.std.proofs.Common.{◌≡◌, ◌∙◌, ℕ, ◌+◌, ◌/◌, ◌%◌, ◌^◌, ⊎_elim, ◌<◌, ◌≤◌, true, false, List, [], ◌∷◌, ◌++◌, length, get_or, arith, sym, ap, refl, length-append, Fits, w8}
use Rattle.std.specs.Prelude.{slice_get, slice_index, Some, None, Vec, vec_capacity, nat_le, ◌==◌}
use Rattle.std.specs.declared.alloc.Global.{Global}
use Rattle.std.proofs.lemmas.Option.{slice_get_cases}
use Rattle.std.proofs.lemmas.Bool.Decides.{nat_tests}
use Rattle.bx_disk.specs.Disks.{Disks, IsImage, shaped, written, synced}
use Rattle.bx_disk.specs.Past.{Past, LeftSince, after_entry, after_entries, fits, disks_of, moment_of}
use Rattle.bx_memory_rack.specs.Bytes.{all_bytes}
use Rattle.bx_memory_rack.specs.Laws.{one_more_entry, lawful_past, crashed_image, time_stays, time_goes_on}
use Rattle.bx_disk.specs.Moments.{Elapses}
use Rattle.bx_memory_rack.proofs.Keeping.{synced_same}
use Rattle.bx_memory_rack.specs.Memory.{IsKeptAs, AreKept, IsMemory, owed, NotesSync}
use Rattle.bx_disk.specs.declared.entry.Entry.{Entry}
use Rattle.bx_disk.specs.declared.entry.Entry.TheVariants.{Wrote, Synced, Shaped, Crashed}
use Rattle.bx_disk.specs.declared.noise.Noise.{Noise}
use Rattle.bx_memory_rack.specs.declared.mem_disk.MemDisk.{MemDisk}

pub Fits-below-256 : (n : ℕ) → Fits w8 n → n < 256
Fits-below-256 n fit = omega arith

-- what fits is noted as written
pub fits_so : (sizes : List ℕ) (disk from : ℕ) (bytes : List ℕ) → length bytes % 512 ≡ 0 → from + length bytes / 512 ≤ slice_index sizes disk
    → ((i : ℕ) → slice_index bytes i < 256) → fits sizes disk from bytes ≡ true
fits_so sizes disk from bytes whole range each =
    let all = all_bytes bytes each in
    let whole_test : (length bytes % 512 == 0) ≡ true = grind (arith, nat_tests, whole) in
    let range_test : nat_le (from + length bytes / 512) (slice_index sizes disk) ≡ true = grind (arith, nat_tests, range) in
    rw (whole_test, range_test) all

pub after_write : (first : List ℕ) (old new : List Entry) (disk from : ℕ) (bytes : List ℕ) → new ≡ old ++ Wrote disk from bytes ∷ []
    → fits (after_entries (shaped first) old).sizes disk from bytes ≡ true
    → after_entries (shaped first) new ≡ written (after_entries (shaped first) old) disk from bytes
after_write first old new disk from bytes is fit = rw is (one_more_entry (shaped first) old (Wrote disk from bytes) ∙ rw fit refl)

pub after_sync : (first : List ℕ) (old new : List Entry) (disk : ℕ) → new ≡ old ++ Synced disk ∷ []
    → after_entries (shaped first) new ≡ synced (after_entries (shaped first) old) disk
after_sync first old new disk is = rw is (one_more_entry (shaped first) old (Synced disk))

pub after_shape : (first : List ℕ) (old new : List Entry) (sizes : List ℕ) → new ≡ old ++ Shaped sizes ∷ []
    → after_entries (shaped first) new ≡ shaped sizes
after_shape first old new sizes is = rw is (one_more_entry (shaped first) old (Shaped sizes))

-- a disk that there is
pub disk_at : (disks : Disks) (memory : List MemDisk) (n d : ℕ) → AreKept disks memory n → d < length disks.sizes → (disk : MemDisk) × IsKeptAs disks d disk n
disk_at disks memory n d kept less = ⊎_elim found past (slice_get_cases memory d).1
  where
    found : ((x : MemDisk) × (d < length memory) × (slice_get memory d ≡ Some x) × (get_or memory d x ≡ x)) → (disk : MemDisk) × IsKeptAs disks d disk n
    found is = (is.0, kept.each d is.0 is.2)

    past : (length memory ≤ d) × (slice_get memory d ≡ None) → (disk : MemDisk) × IsKeptAs disks d disk n
    past is = let many = kept.many in let le = is.0 in absurd (omega arith)

pub small_size : (disks : Disks) (memory : List MemDisk) (n d : ℕ) → AreKept disks memory n → d < length disks.sizes → slice_index disks.sizes d < 2 ^ 64
small_size disks memory n d kept less =
    let found = disk_at disks memory n d kept less in
    rw (found.1.size) found.1.small

pub memory_after_write : (first : List ℕ) (old new : Vec Entry Global) (memory later : List MemDisk) (by_disk : List ℕ) (disk from : ℕ) (bytes : List ℕ)
    → IsMemory first old memory by_disk
    → new.items ≡ old.items ++ Wrote disk from bytes ∷ []
    → fits (after_entries (shaped first) old.items).sizes disk from bytes ≡ true
    → AreKept (written (after_entries (shaped first) old.items) disk from bytes) later (length old.items + 1)
    → owed later + length new.items ≤ vec_capacity new → length later ≡ length memory
    → IsMemory first new later by_disk
memory_after_write first old new memory later by_disk disk from bytes was is fit kept room many = record {
  kept = rw (after_write first old.items new.items disk from bytes is fit, long) kept;
  room = room;
  counted = rw many was.counted;
  few = rw many was.few;
}
  where
    long : length new.items ≡ length old.items + 1
    long = ap (λ (l : List Entry). length l) is ∙ length-append old.items (Wrote disk from bytes ∷ [])

pub after_noted : (first : List ℕ) (old new : List Entry) (memory : List MemDisk) (n d : ℕ) → AreKept (after_entries (shaped first) old) memory n
    → d < length (after_entries (shaped first) old).sizes → NotesSync (after_entries (shaped first) old) d old new
    → after_entries (shaped first) new ≡ synced (after_entries (shaped first) old) d
after_noted first old new memory n d kept less notes = ⊎_elim (λ is. after_sync first old new d is) same notes.either
  where
    found : (disk : MemDisk) × IsKeptAs (after_entries (shaped first) old) d disk n
    found = disk_at (after_entries (shaped first) old) memory n d kept less

    same : (new ≡ old) × ((s : ℕ) → (after_entries (shaped first) old).unsure d s ≡ false) → after_entries (shaped first) new ≡ synced (after_entries (shaped first) old) d
    same is = rw (is.0) (sym (synced_same (after_entries (shaped first) old) d found.0 n found.1 is.1))

pub time_after_sync : (old new : Past) (d : ℕ) → new.first ≡ old.first → NotesSync (disks_of old) d old.entries new.entries
    → Elapses (moment_of old) (moment_of new) (LeftSince old) (LeftSince new) (disks_of new)
time_after_sync old new d first notes = ⊎_elim (λ is. time_goes_on old new (Synced d) first is) (λ is. time_stays old new first is.0) notes.either

pub memory_after_sync : (first : List ℕ) (old new : Vec Entry Global) (memory later : List MemDisk) (by_disk : List ℕ) (d : ℕ)
    → IsMemory first old memory by_disk → d < length (after_entries (shaped first) old.items).sizes
    → NotesSync (after_entries (shaped first) old.items) d old.items new.items
    → AreKept (synced (after_entries (shaped first) old.items) d) later (length new.items)
    → owed later + length new.items ≤ vec_capacity new → length later ≡ length memory
    → IsMemory first new later by_disk
memory_after_sync first old new memory later by_disk d was less notes kept room many = record {
  kept = rw (after_noted first old.items new.items memory (length old.items) d was.kept less notes) kept;
  room = room;
  counted = rw many was.counted;
  few = rw many was.few;
}

pub memory_after_shape : (first : List ℕ) (old new : Vec Entry Global) (later : List MemDisk) (by_disk : List ℕ) (sizes : List ℕ)
    → new.items ≡ old.items ++ Shaped sizes ∷ []
    → AreKept (shaped sizes) later (length old.items + 1) → owed later ≡ 0 → length new.items ≤ vec_capacity new
    → length sizes ≤ length by_disk → length sizes < 2 ^ 32
    → IsMemory first new later by_disk
memory_after_shape first old new later by_disk sizes is kept none fit counted few = record {
  kept = rw (after_shape first old.items new.items sizes is, long) kept;
  room = let owes = none in let fits_so_far = fit in omega arith;
  counted = rw (kept.many) counted;
  few = rw (kept.many) few;
}
  where
    long : length new.items ≡ length old.items + 1
    long = ap (λ (l : List Entry). length l) is ∙ length-append old.items (Shaped sizes ∷ [])

-- one entry more, whatever it is
pub after_more : (first : List ℕ) (old new : List Entry) (entry : Entry) → new ≡ old ++ entry ∷ []
    → after_entries (shaped first) new ≡ after_entry (after_entries (shaped first) old) entry
after_more first old new entry is = rw is (one_more_entry (shaped first) old entry)

pub memory_after_more : (first : List ℕ) (old new : Vec Entry Global) (memory later : List MemDisk) (by_disk : List ℕ) (entry : Entry)
    → IsMemory first old memory by_disk → new.items ≡ old.items ++ entry ∷ []
    → AreKept (after_entry (after_entries (shaped first) old.items) entry) later (length old.items + 1)
    → owed later + length new.items ≤ vec_capacity new → length later ≡ length memory
    → IsMemory first new later by_disk
memory_after_more first old new memory later by_disk entry was is kept room many = record {
  kept = rw (after_more first old.items new.items entry is, long) kept;
  room = room;
  counted = rw many was.counted;
  few = rw many was.few;
}
  where
    long : length new.items ≡ length old.items + 1
    long = ap (λ (l : List Entry). length l) is ∙ length-append old.items (entry ∷ [])

-- After a crash the disks read as one of the images that it may leave.
pub image_after_crash : (first : List ℕ) (old new : List Entry) (disk : ℕ) (how : Noise) → new ≡ old ++ Crashed disk how ∷ []
    → IsImage (after_entries (shaped first) old) (after_entries (shaped first) new).reads
image_after_crash first old new disk how is =
    rw (after_more first old new (Crashed disk how) is)
    (crashed_image (after_entries (shaped first) old) disk how (lawful_past (record { first = first; entries = old; calls = 0; failing = []; faults = 0; by_disk = [] })))
