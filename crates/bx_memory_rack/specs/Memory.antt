-- How a rack in memory keeps its disks.
use Rattle.std.specs.Prelude.{◌≡◌, ℕ, ◌+◌, ◌^◌, ◌<◌, ◌≤◌, true, false, MatchBool, nat_lt, if◌then◌else◌, List, [], ◌∷◌, ◌++◌, ◌⊎◌, length, slice_get, slice_index, Some, Vec, vec_capacity}
use Rattle.bx_disk.specs.Disks.{Disks, shaped}
use Rattle.bx_memory_rack.specs.Cells.{cell_at, blank_cell}
use Rattle.bx_disk.specs.Past.{after_entries}
use Rattle.bx_disk.specs.declared.entry.Entry.{Entry}
use Rattle.bx_disk.specs.declared.entry.Entry.TheVariants.{Synced}
use Rattle.bx_memory_rack.specs.declared.mem_disk.MemDisk.{MemDisk}
use Rattle.std.specs.declared.alloc.Global.{Global}

-- this is how disk d is kept once the record has n entries
pub record IsKeptAs (disks : Disks) (d : ℕ) (disk : MemDisk) (n : ℕ) : Type 0 where
  pub size : slice_index disks.sizes d ≡ disk.size
  pub small : disk.size < 2 ^ 64
  pub reads : (s : ℕ) → s < disk.size → disks.reads d s ≡ (cell_at disk.cells s).now
  pub held : (s : ℕ) → s < disk.size → disks.unsure d s ≡ true → disks.held d s ≡ (cell_at disk.cells s).held
  pub unsure : (s : ℕ) → disks.unsure d s ≡ nat_lt disk.synced (cell_at disk.cells s).since
  pub before : (s : ℕ) → (cell_at disk.cells s).since ≤ n
  pub over : disk.synced ≤ n
  pub settled : (s : ℕ) → disks.unsure d s ≡ false → disks.held d s ≡ disks.reads d s
  pub dirty : MatchBool disk.dirty ((s : ℕ) × (disks.unsure d s ≡ true)) ((s : ℕ) → disks.unsure d s ≡ false)

-- a disk of this size, all of zeros, once the record has n entries
pub record IsBlank (disk : MemDisk) (sectors n : ℕ) : Type 0 where
  pub size : disk.size ≡ sectors
  pub small : disk.size < 2 ^ 64
  pub cells : (s : ℕ) → cell_at disk.cells s ≡ blank_cell
  pub synced : disk.synced ≡ n
  pub clean : disk.dirty ≡ false

-- each disk is kept
pub record AreKept (disks : Disks) (memory : List MemDisk) (n : ℕ) : Type 0 where
  pub many : length memory ≡ length disks.sizes
  pub each : (d : ℕ) (disk : MemDisk) → slice_get memory d ≡ Some disk → IsKeptAs disks d disk n

-- how many disks have unsure sectors: a sync of each adds one entry to the record
abbrev pub owed : List MemDisk → ℕ
owed [] = 0
owed (disk ∷ disks) = (if disk.dirty then 1 else 0) + owed disks

-- The disks are those that the record tells, and a sync finds room in it.
pub record IsMemory (first : List ℕ) (entries : Vec Entry Global) (memory : List MemDisk) (by_disk : List ℕ) : Type 0 where
  pub kept : AreKept (after_entries (shaped first) entries.items) memory (length entries.items)
  pub room : owed memory + length entries.items ≤ vec_capacity entries
  pub counted : length memory ≤ length by_disk
  pub few : length memory < 2 ^ 32

-- A sync was noted where a sector of the disk was unsure, and nothing where none was.
pub record NotesSync (disks : Disks) (disk : ℕ) (old new : List Entry) : Type 0 where
  pub some : (s : ℕ) → disks.unsure disk s ≡ true → new ≡ old ++ Synced disk ∷ []
  pub none : ((s : ℕ) → disks.unsure disk s ≡ false) → new ≡ old
  pub either : (new ≡ old ++ Synced disk ∷ []) ⊎ ((new ≡ old) × ((s : ℕ) → disks.unsure disk s ≡ false))
