-- What calls and crashes leave of the disks of a cluster: those of replicas are the first three, and members' stand behind them.
use Rattle.std.specs.Prelude.{◌≡◌, ◌≢◌, ℕ, ◌+◌, ◌^◌, ◌<◌, ◌≤◌, ◌⊎◌, ◌==◌, max, Bool, true, false, List, slice_index, Option, Some, None}
use Rattle.bx_records.specs.bx_base.specs.declared.names.Actor.{Actor}
use Rattle.bx_calls.specs.bx_disk.specs.Disks.{Image, Disks, IsSector, Stays}
use Rattle.bx_global.specs.declared.state.GlobalState.{GlobalState}
use Rattle.bx_facts.specs.Machines.{disk_of}

-- A sector reads as it did, and is sure if it was.
pub record IsKept (old new : Disks) (d s : ℕ) : Type 0 where
  pub reads : new.reads d s ≡ old.reads d s
  pub sure : old.unsure d s ≡ false → new.unsure d s ≡ false

-- The disks of replicas are kept but for their labels; those of members are; the labels of replicas are; all are.
pub record SameReplicas (old new : Disks) : Type 0 where
  pub each : (d s : ℕ) → d < 3 → 1 ≤ s → IsKept old new d s

pub record SameMembers (old new : Disks) : Type 0 where
  pub each : (d s : ℕ) → 3 ≤ d → IsKept old new d s

pub record SameLabels (old new : Disks) : Type 0 where
  pub each : (d : ℕ) → d < 3 → IsKept old new d 0

pub record SameDisks (old new : Disks) : Type 0 where
  pub each : (d s : ℕ) → IsKept old new d s

-- The disks of replicas are as long as they were.
pub record SameLengths (old new : Disks) : Type 0 where
  pub each : (d : ℕ) → d < 3 → slice_index new.sizes d ≡ slice_index old.sizes d

-- The disks of members are.
pub record SameMemberLengths (old new : Disks) : Type 0 where
  pub each : (d : ℕ) → 3 ≤ d → slice_index new.sizes d ≡ slice_index old.sizes d

-- Disks other than a machine's own are as they were.
pub record OnlyDiskOf (who : Actor) (old new : Disks) : Type 0 where
  pub others : (d s : ℕ) → disk_of who ≢ Some d → Stays old new d s

-- What a crash of one disk leaves: sure sectors as they read, any 512 bytes in those that were unsure, and nothing unsure. Other
-- disks are as they were.
pub record Crashes (disk : ℕ) (old new : Disks) : Type 0 where
  pub sure : (s : ℕ) → old.unsure disk s ≡ false → new.reads disk s ≡ old.reads disk s
  pub torn : (s : ℕ) → old.unsure disk s ≡ true → IsSector (new.reads disk s)
  pub synced : (s : ℕ) → new.unsure disk s ≡ false
  pub others : (d s : ℕ) → d ≢ disk → Stays old new d s

-- An image has what was sure on the disks of members and in the labels of replicas, and is read as one of these states.
pub record ReadsOnly (reads_as : List ℕ → Image → GlobalState → Type 0) (old : Disks) (May : GlobalState → Type 0) (image : Image) : Type 0 where
  pub members : (d s : ℕ) → 3 ≤ d → old.unsure d s ≡ false → image d s ≡ old.reads d s
  pub labels : (d : ℕ) → d < 3 → old.unsure d 0 ≡ false → image d 0 ≡ old.reads d 0
  pub read : (s : GlobalState) → reads_as old.sizes image s → May s

-- Disks tell no state that another may follow: they are read as none, or as one whose index is the greatest that a number can be.
abbrev pub TellNoState : (List ℕ → Image → GlobalState → Type 0) → Disks → Type 0
TellNoState reads_as x = ((s : GlobalState) → reads_as x.sizes x.reads s → ⊥) ⊎ ((s : GlobalState) × reads_as x.sizes x.reads s × (2 ^ 64 ≤ s.index + 1))

-- A rack has as many sectors of each disk as are needed.
pub record HasRoom (needs : ℕ → ℕ) (sizes : List ℕ) : Type 0 where
  pub each : (disk : ℕ) → needs disk ≤ slice_index sizes disk

-- No more is needed than was.
pub record NeedsNoMore (old new : ℕ → ℕ) : Type 0 where
  pub each : (disk : ℕ) → new disk ≤ old disk

-- how many sectors of a disk a machine needs that needs so many of its own
abbrev pub wanted_by : Option ℕ → ℕ → ℕ → ℕ
wanted_by None sectors disk = 0
wanted_by (Some own) sectors disk = if_own (own == disk) sectors
  where
    if_own : Bool → ℕ → ℕ
    if_own true n = n
    if_own false n = 0

-- Of the disk of one machine so many sectors are needed at most, and of others no more than before.
pub record NeedsAt (who : Actor) (sectors : ℕ) (old new : ℕ → ℕ) : Type 0 where
  pub each : (disk : ℕ) → new disk ≤ max (old disk) (wanted_by (disk_of who) sectors disk)
