-- What a call keeps of disks, whether it succeeds or not, and what a crash during it may leave.
use Rattle.std.specs.Prelude.{◌≡◌, ◌≢◌, ℕ, ◌≤◌, ◌⊎◌, true, false}
use Rattle.bx_disk.specs.Disks.{Image, Disks, Stays, MayBeWritten}
use Rattle.bx_calls.specs.Regions.{EachOutside}

-- Outside the region all reads as it did, what was sure stays sure, and what is still unsure is as it was. Other disks
-- are as they were. The sizes stay.
pub record KeepsSure (old new : Disks) (disk sector count : ℕ) : Type 0 where
  pub sizes : new.sizes ≡ old.sizes
  pub reads : EachOutside disk sector count (λ d s. new.reads d s ≡ old.reads d s)
  pub sure : EachOutside disk sector count (λ d s. old.unsure d s ≡ false → new.unsure d s ≡ false)
  pub still : EachOutside disk sector count (λ d s. new.unsure d s ≡ true → Stays old new d s)
  pub others : (d s : ℕ) → d ≢ disk → Stays old new d s

-- Nothing is written: all reads as it did, what was sure stays sure, and what is still unsure is as it was. Other disks
-- are as they were. The sizes stay.
pub record KeepsAll (old new : Disks) (disk : ℕ) : Type 0 where
  pub sizes : new.sizes ≡ old.sizes
  pub reads : new.reads ≡ old.reads
  pub sure : (d s : ℕ) → old.unsure d s ≡ false → new.unsure d s ≡ false
  pub still : (d s : ℕ) → new.unsure d s ≡ true → Stays old new d s
  pub others : (d s : ℕ) → d ≢ disk → Stays old new d s

-- Only sectors of the region were written, and nothing was synced. What that says stands in the definition of a write
-- that may have failed; chains of calls, which seldom ask for it, don't look inside.
unfoldable pub WritesOnly : Disks → Disks → ℕ → ℕ → ℕ → Type 0
WritesOnly old new disk sector count = MayBeWritten old new disk sector count

-- The image has all that was sure outside the region.
pub record HasSure (old : Disks) (disk sector count : ℕ) (image : Image) : Type 0 where
  pub outside : EachOutside disk sector count (λ d s. old.unsure d s ≡ false → image d s ≡ old.reads d s)

-- Each image that a crash since the call began might have left has P. One that a crash since an earlier moment might
-- have left might have been left before the call too, or has P.
pub record LeavesOnly (before now : ℕ) (past since : ℕ → Image → Type 0) (P : Image → Type 0) : Type 0 where
  pub later : before ≤ now
  pub each : (image : Image) → since before image → P image
  pub nothing_else : (t : ℕ) (image : Image) → t ≤ before → since t image → past t image ⊎ P image
  pub keeps : (t : ℕ) (image : Image) → t ≤ before → past t image → since t image
