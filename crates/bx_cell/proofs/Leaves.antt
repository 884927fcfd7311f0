-- What a crash at a moment of a put may leave, one step after the other.
use Rattle.std.proofs.Common.{◌≡◌, ℕ, ◌+◌, ◌*◌, ◌<◌, ◌≤◌, ◌^◌, true, false, List, length, Some, refl, sym, ap, ◌∙◌, arith, Bool, subst}
use Rattle.std.specs.Prelude.{slice_index}
use Rattle.bx_disk.specs.Disks.{Image, Disks, IsImage, IsSector, sector_of}
use Rattle.bx_calls.specs.Regions.{ReadsAs, IsSynced}
use Rattle.bx_calls.specs.Calls.{KeepsSure, KeepsAll, HasSure, LeavesOnly}
use Rattle.bx_calls.specs.Laws.{keeps_part, leaves_part, leaves_then, leaves_implies, image_has, inside_by}
use Rattle.bx_cell.specs.Halves.{Found, is_open, cell_in}
use Rattle.bx_cell.specs.Images.{EachImage, EachSure}
use Rattle.bx_cell.specs.Cells.{ClosesOnly, HasBefore, HasEither, CellStands, next}
use Rattle.bx_cell.specs.Bytes.{body_text}
use Rattle.bx_cell.proofs.Bodies.{length-body_text}
use Rattle.bx_cell.proofs.Regions.{sure_has, image_all}
use Rattle.bx_cell.proofs.Puts.{has_first, either_before, closing, filling, opening}

-- What disks read as is one of their images.
pub reads_are : (disks : Disks) → ((d s : ℕ) → s < slice_index disks.sizes d → IsSector (disks.reads d s)) → ((d s : ℕ) → disks.unsure d s ≡ true → s < slice_index disks.sizes d)
    → IsImage disks disks.reads
reads_are disks whole there = record { sure = λ d s is. refl; torn = λ d s is. whole d s (there d s is) }

-- What a crash of a disk that was synced may leave it might have left before.
image_before : (old new : Disks) (disk : ℕ) (image : Image) → IsImage old old.reads → KeepsAll old new disk → IsImage new image → IsImage old image
image_before old new disk image reads keeps is = record {
  sure = λ d s sure. is.sure d s (keeps.sure d s sure) ∙ same d s;
  torn = λ d s unsure. by_sector d s (new.unsure d s) refl unsure;
}
  where
    same : (d s : ℕ) → new.reads d s ≡ old.reads d s
    same d s = ap (λ (x : Image). x d s) keeps.reads

    by_sector : (d s : ℕ) (b : Bool) → new.unsure d s ≡ b → old.unsure d s ≡ true → IsSector (image d s)
    by_sector d s true e unsure = is.torn d s e
    by_sector d s false e unsure = subst IsSector (sym (is.sure d s e ∙ same d s)) (reads.torn d s unsure)

pub read_leaves : (before mid now : ℕ) (past between since : ℕ → Image → Type 0) (old new : Disks) (disk : ℕ) → IsImage old old.reads → KeepsAll old new disk
    → LeavesOnly before mid past between (IsImage old) → LeavesOnly mid now between since (IsImage new) → LeavesOnly before now past since (IsImage old)
read_leaves before mid now past between since old new disk reads keeps first last =
    leaves_then before mid now past between since (IsImage old) (IsImage new) first last (λ image is. image_before old new disk image reads keeps is)

-- ---- a gate that was open is closed

opens_only : (old : Disks) (disk sector : ℕ) (image : Image) → is_open (old.reads disk sector) ≡ true → HasSure old disk sector 1 image → ClosesOnly old disk sector image
opens_only old disk sector image opened has = record { outside = has; closed = λ closed. absurd (cc) }

-- where nothing was written
pub closed_still : (old : Disks) (disk sector : ℕ) (before now : ℕ) (past since : ℕ → Image → Type 0) → IsSynced old disk → LeavesOnly before now past since (IsImage old)
    → LeavesOnly before now past since (ClosesOnly old disk sector)
closed_still old disk sector before now past since synced leaves =
    leaves_implies before now past since (IsImage old) (ClosesOnly old disk sector) leaves
    (λ image is. record { outside = image_has old disk sector 1 image is; closed = λ closed. ap is_open (is.sure disk sector (synced.each sector)) ∙ closed })

pub gate_first : (old : Disks) (disk sector : ℕ) (before now : ℕ) (past since : ℕ → Image → Type 0) → LeavesOnly before now past since (IsImage old)
    → LeavesOnly before now past since (HasSure old disk sector 1)
gate_first old disk sector before now past since leaves =
    leaves_implies before now past since (IsImage old) (HasSure old disk sector 1) leaves (λ image is. image_has old disk sector 1 image is)

pub gate_beside : (before mid now : ℕ) (past between since : ℕ → Image → Type 0) (old new : Disks) (disk sector count : ℕ)
    → count ≡ 1 → new ≡ old → LeavesOnly before mid past between (IsImage old) → LeavesOnly mid now between since (HasSure new disk sector count)
    → LeavesOnly before now past since (HasSure old disk sector 1)
gate_beside before mid now past between since old new disk sector count single same first last =
    leaves_then before mid now past between since (HasSure old disk sector 1) (HasSure new disk sector count) (gate_first old disk sector before mid past between first) last
    (λ image has. rw (← same, ← single) has)

pub gate_leaves : (before mid now : ℕ) (past between since : ℕ → Image → Type 0) (old new : Disks) (disk sector count : ℕ)
    → count ≡ 1 → is_open (old.reads disk sector) ≡ true → new ≡ old → LeavesOnly before mid past between (IsImage old) → LeavesOnly mid now between since (HasSure new disk sector count)
    → LeavesOnly before now past since (ClosesOnly old disk sector)
gate_leaves before mid now past between since old new disk sector count single opened same first last =
    leaves_then before mid now past between since (ClosesOnly old disk sector) (HasSure new disk sector count)
    (leaves_implies before mid past between (IsImage old) (ClosesOnly old disk sector) first (λ image is. opens_only old disk sector image opened (image_has old disk sector 1 image is)))
    last (λ image has. opens_only old disk sector image opened (rw (← same, ← single) has))

pub gate_either : (old new after : Disks) (disk sector count : ℕ) → count ≡ 1 → is_open (old.reads disk sector) ≡ true → new ≡ old → KeepsSure new after disk sector count
    → EachSure after (ClosesOnly old disk sector)
gate_either old new after disk sector count single opened same keeps = record {
  each = λ image has. opens_only old disk sector image opened (rw (← same, ← single) (sure_has new after disk sector count image keeps has));
}

-- ---- the steps of a put

pub leaves_first : (old : Disks) (disk base : ℕ) (found : Found) (before now : ℕ) (past since : ℕ → Image → Type 0) → EachImage old (λ image. cell_in (image disk) base ≡ Some found)
    → LeavesOnly before now past since (IsImage old) → LeavesOnly before now past since (HasBefore old disk base found)
leaves_first old disk base found before now past since each leaves =
    leaves_implies before now past since (IsImage old) (HasBefore old disk base found) leaves
    (λ image is. has_first old disk base found image (each.each image is) (image_all old image is))

pub leaves_either : (old : Disks) (disk base : ℕ) (found new : Found) (before now : ℕ) (past since : ℕ → Image → Type 0)
    → LeavesOnly before now past since (HasBefore old disk base found) → LeavesOnly before now past since (HasEither old disk base found new)
leaves_either old disk base found new before now past since leaves =
    leaves_implies before now past since (HasBefore old disk base found) (HasEither old disk base found new) leaves (λ image has. either_before old disk base found new image has)

module _ (old : Disks) (disk base half : ℕ) (found : Found) (one : found.half + half ≡ 1) where
  pub leaves_closing : (before mid now : ℕ) (past between since : ℕ → Image → Type 0) (new : Disks) → CellStands old new disk base found
      → LeavesOnly before mid past between (HasBefore old disk base found) → LeavesOnly mid now between since (ClosesOnly new disk (base + 10 * half))
      → LeavesOnly before now past since (HasBefore old disk base found)
  leaves_closing before mid now past between since new stands first last =
      leaves_then before mid now past between since (HasBefore old disk base found) (ClosesOnly new disk (base + 10 * half)) first last
      (λ image closes. closing old disk base half found one new image stands closes)

module _ (old : Disks) (disk base half : ℕ) (found : Found) (one : found.half + half ≡ 1) (value : List ℕ) where
  pub leaves_filling : (before mid now : ℕ) (past between since : ℕ → Image → Type 0) (new : Disks) (count : ℕ) → CellStands old new disk base found
      → is_open (new.reads disk (base + 10 * half)) ≡ false → count ≤ 9
      → LeavesOnly before mid past between (HasEither old disk base found (next found value)) → LeavesOnly mid now between since (HasSure new disk (base + 10 * half + 1) count)
      → LeavesOnly before now past since (HasEither old disk base found (next found value))
  leaves_filling before mid now past between since new count stands closed most first last =
      leaves_then before mid now past between since (HasEither old disk base found (next found value)) (HasSure new disk (base + 10 * half + 1) count) first last
      (λ image has. filling old disk base half found one new count image (next found value) stands closed most has)

  pub leaves_opening : (before mid now : ℕ) (past between since : ℕ → Image → Type 0) (new : Disks) (count : ℕ) → length value ≤ 4096 → found.number + 1 < 2 ^ 64 → CellStands old new disk base found
      → ((i : ℕ) → i < 9 → new.reads disk (base + 10 * half + 1 + i) ≡ sector_of (body_text (found.number + 1) value) i) → count ≤ 1
      → LeavesOnly before mid past between (HasEither old disk base found (next found value)) → LeavesOnly mid now between since (HasSure new disk (base + 10 * half) count)
      → LeavesOnly before now past since (HasEither old disk base found (next found value))
  leaves_opening before mid now past between since new count short fits stands body most first last =
      leaves_then before mid now past between since (HasEither old disk base found (next found value)) (HasSure new disk (base + 10 * half) count) first last
      (λ image has. opening old disk base half found one value short fits new stands body count most image has)

-- ---- what is beside the cell, whatever it holds

pub beside_first : (before now : ℕ) (past since : ℕ → Image → Type 0) (old : Disks) (disk base : ℕ) → LeavesOnly before now past since (IsImage old)
    → LeavesOnly before now past since (HasSure old disk base 20)
beside_first before now past since old disk base leaves =
    leaves_implies before now past since (IsImage old) (HasSure old disk base 20) leaves (λ image is. image_has old disk base 20 image is)

pub beside_then : (before mid now : ℕ) (past between since : ℕ → Image → Type 0) (old new : Disks) (disk base sector count : ℕ) → base ≤ sector → sector + count ≤ base + 20
    → LeavesOnly before mid past between (HasSure old disk base 20) → KeepsSure old new disk base 20 → LeavesOnly mid now between since (HasSure new disk sector count)
    → LeavesOnly before now past since (HasSure old disk base 20)
beside_then before mid now past between since old new disk base sector count low high first keeps last =
    leaves_part before mid now past between since old new disk base 20 disk sector count first keeps last (inside_by disk sector count disk base 20 refl low high)

pub keeps_then : (old mid new : Disks) (disk base sector count : ℕ) → base ≤ sector → sector + count ≤ base + 20 → KeepsSure old mid disk base 20 → KeepsSure mid new disk sector count
    → KeepsSure old new disk base 20
keeps_then old mid new disk base sector count low high first last =
    keeps_part old mid new disk base 20 disk sector count first last (inside_by disk sector count disk base 20 refl low high)

-- ---- what was written of a half

pub body_reads : (image : Image) (disk at : ℕ) (value : List ℕ) (number before : ℕ) → length value ≤ 4096 → before + 1 ≡ number → ReadsAs image disk at (body_text number value)
    → (i : ℕ) → i < 9 → image disk (at + i) ≡ sector_of (body_text (before + 1) value) i
body_reads image disk at value number before short more reads i less =
    let long = length-body_text number value short in
    reads.each i (omega arith) ∙ ap (λ (n : ℕ). sector_of (body_text n value) i) (sym more)
