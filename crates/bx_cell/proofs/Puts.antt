-- The steps of a put: how disks stand between two of them, and what the images have that a crash in one may leave.
use Rattle.std.proofs.Common.{◌≡◌, ℕ, ◌+◌, ◌*◌, ◌<◌, ◌≤◌, ◌^◌, ◌⊎◌, inl, inr, Bool, true, false, List, length, Some, None, refl, sym, ap, ◌∙◌, arith}
use Rattle.bx_disk.specs.Disks.{Image, Disks, IsImage, sector_of}
use Rattle.bx_calls.specs.Regions.{IsSynced}
use Rattle.bx_calls.specs.Calls.{KeepsSure, KeepsAll, HasSure}
use Rattle.bx_calls.specs.Laws.{keeps_part, keeps_all, has_wider, has_before, inside_by}
use Rattle.bx_cell.specs.Halves.{Found, is_open, half_at, cell_in}
use Rattle.bx_cell.specs.Images.{EachImage, HasAllSure, EachSure}
use Rattle.bx_cell.specs.Cells.{ClosesOnly, HasBefore, HasEither, CellStands, next}
use Rattle.bx_cell.specs.Bytes.{body_text}
use Rattle.bx_cell.proofs.Regions.{agrees, reads_has, sure_has, all_has}
use Rattle.bx_cell.proofs.Sectors.{half_same, half_beside, half_closed}
use Rattle.bx_cell.proofs.Bodies.{half_filled}
use Rattle.bx_cell.proofs.Chosen.{still_found, newly_found}

-- ---- between two steps

module _ (old : Disks) (disk base half : ℕ) (found : Found) (one : found.half + half ≡ 1) where
  -- The half with the value isn't written.
  own : (now : Disks) (sector count : ℕ) (image : Image) → CellStands old now disk base found → HasSure now disk sector count image
      → base + 10 * half ≤ sector → sector + count ≤ base + 10 * half + 10
      → half_at (image disk) found.half (base + 10 * found.half) ≡ half_at (now.reads disk) found.half (base + 10 * found.half)
  own now sector count image stands has low high =
      half_same (image disk) (now.reads disk) found.half (base + 10 * found.half) (base + 10 * found.half)
      (λ i less. agrees now disk sector count image stands.synced has (base + 10 * found.half + i) (side i less))
    where
      side : (i : ℕ) → i < 10 → (base + 10 * found.half + i < sector) ⊎ (sector + count ≤ base + 10 * found.half + i)
      side i less = grind arith

  outside : (now : Disks) (sector count : ℕ) (image : Image) → CellStands old now disk base found → HasSure now disk sector count image
      → base + 10 * half ≤ sector → sector + count ≤ base + 10 * half + 10 → HasSure old disk base 20 image
  outside now sector count image stands has low high =
      has_before old now disk base 20 image stands.keeps
      (has_wider now disk sector count disk base 20 image has (inside_by disk sector count disk base 20 refl (omega arith) (omega arith)))

  keeps_on : (now after : Disks) (sector count : ℕ) → CellStands old now disk base found → KeepsSure now after disk sector count
      → base + 10 * half ≤ sector → sector + count ≤ base + 10 * half + 10 → KeepsSure old after disk base 20
  keeps_on now after sector count stands keeps low high =
      keeps_part old now after disk base 20 disk sector count stands.keeps keeps (inside_by disk sector count disk base 20 refl (omega arith) (omega arith))

  -- ---- the gate is closed

  still_closing : (now : Disks) (image : Image) → CellStands old now disk base found → ClosesOnly now disk (base + 10 * half) image → cell_in (image disk) base ≡ Some found
  still_closing now image stands closes =
      still_found (image disk) (now.reads disk) base half found stands.cell one (own now (base + 10 * half) 1 image stands closes.outside (omega arith) (omega arith))
      (other (is_open (image disk (base + 10 * half))) (is_open (now.reads disk (base + 10 * half))) refl refl)
    where
      same : (i : ℕ) → 1 ≤ i → i < 10 → image disk (base + 10 * half + i) ≡ now.reads disk (base + 10 * half + i)
      same i low less = agrees now disk (base + 10 * half) 1 image stands.synced closes.outside (base + 10 * half + i) (inr (omega arith))

      other : (here was : Bool) → is_open (image disk (base + 10 * half)) ≡ here → is_open (now.reads disk (base + 10 * half)) ≡ was
          → (half_at (image disk) half (base + 10 * half) ≡ half_at (now.reads disk) half (base + 10 * half)) ⊎ (half_at (image disk) half (base + 10 * half) ≡ None)
      other false was closed is = inr (half_closed (image disk) half (base + 10 * half) closed)
      other true true opened is = inl (half_beside (image disk) (now.reads disk) half (base + 10 * half) (base + 10 * half) (opened ∙ sym is) same)
      other true false opened is = let closed = closes.closed is in absurd cc

  pub closing : (now : Disks) (image : Image) → CellStands old now disk base found → ClosesOnly now disk (base + 10 * half) image → HasBefore old disk base found image
  closing now image stands closes = record {
    cell = still_closing now image stands closes;
    outside = outside now (base + 10 * half) 1 image stands closes.outside (omega arith) (omega arith);
  }

  pub closed : (now after : Disks) → CellStands old now disk base found → KeepsSure now after disk (base + 10 * half) 1 → IsSynced after disk
      → is_open (after.reads disk (base + 10 * half)) ≡ false → CellStands old after disk base found
  closed now after stands keeps synced is = record {
    keeps = keeps_on now after (base + 10 * half) 1 stands keeps (omega arith) (omega arith);
    synced = synced;
    cell = still_closing now after.reads stands (record { outside = reads_has now after disk (base + 10 * half) 1 keeps; closed = λ _. is });
  }

  -- ---- the header and the value are written

  still_filling : (now : Disks) (count : ℕ) (image : Image) → CellStands old now disk base found → is_open (now.reads disk (base + 10 * half)) ≡ false → count ≤ 9
      → HasSure now disk (base + 10 * half + 1) count image → cell_in (image disk) base ≡ Some found
  still_filling now count image stands is most has =
      still_found (image disk) (now.reads disk) base half found stands.cell one (own now (base + 10 * half + 1) count image stands has (omega arith) (omega arith))
      (inr (half_closed (image disk) half (base + 10 * half) (ap is_open (agrees now disk (base + 10 * half + 1) count image stands.synced has (base + 10 * half) (inl (omega arith))) ∙ is)))

  pub filling : (now : Disks) (count : ℕ) (image : Image) (new : Found) → CellStands old now disk base found → is_open (now.reads disk (base + 10 * half)) ≡ false → count ≤ 9
      → HasSure now disk (base + 10 * half + 1) count image → HasEither old disk base found new image
  filling now count image new stands is most has = record {
    cell = inl (still_filling now count image stands is most has);
    outside = outside now (base + 10 * half + 1) count image stands has (omega arith) (omega arith);
  }

  pub filled : (now after : Disks) (count : ℕ) → CellStands old now disk base found → is_open (now.reads disk (base + 10 * half)) ≡ false → count ≤ 9
      → KeepsSure now after disk (base + 10 * half + 1) count → IsSynced after disk → CellStands old after disk base found
  filled now after count stands is most keeps synced = record {
    keeps = keeps_on now after (base + 10 * half + 1) count stands keeps (omega arith) (omega arith);
    synced = synced;
    cell = still_filling now count after.reads stands is most (reads_has now after disk (base + 10 * half + 1) count keeps);
  }

  -- ---- the gate is opened

  module _ (value : List ℕ) (short : length value ≤ 4096) (fits : found.number + 1 < 2 ^ 64) (now : Disks) (stands : CellStands old now disk base found)
      (body : (i : ℕ) → i < 9 → now.reads disk (base + 10 * half + 1 + i) ≡ sector_of (body_text (found.number + 1) value) i) (count : ℕ) (most : count ≤ 1) where
    here : (image : Image) → HasSure now disk (base + 10 * half) count image → is_open (image disk (base + 10 * half)) ≡ true → cell_in (image disk) base ≡ Some (next found value)
    here image has opened =
        let new : half_at (image disk) half (base + 10 * half) ≡ Some (record { half = half; number = found.number + 1; value = value }) =
        half_filled (image disk) half (base + 10 * half) (found.number + 1) value short fits opened
        (λ i less. agrees now disk (base + 10 * half) count image stands.synced has (base + 10 * half + 1 + i) (inr (omega arith)) ∙ body i less) in
        newly_found (image disk) (now.reads disk) base found (record { half = half; number = found.number + 1; value = value }) stands.cell one
        (own now (base + 10 * half) count image stands has (omega arith) (omega arith)) new (omega arith)
        ∙ ap (λ (h : ℕ). Some (record { half = h; number = found.number + 1; value = value })) (omega arith)

    pub opening : (image : Image) → HasSure now disk (base + 10 * half) count image → HasEither old disk base found (next found value) image
    opening image has = record {
      cell = by_gate (is_open (image disk (base + 10 * half))) refl;
      outside = outside now (base + 10 * half) count image stands has (omega arith) (omega arith);
    }
      where
        by_gate : (b : Bool) → is_open (image disk (base + 10 * half)) ≡ b → (cell_in (image disk) base ≡ Some found) ⊎ (cell_in (image disk) base ≡ Some (next found value))
        by_gate true opened = inr (here image has opened)
        by_gate false closed =
            inl (still_found (image disk) (now.reads disk) base half found stands.cell one (own now (base + 10 * half) count image stands has (omega arith) (omega arith))
            (inr (half_closed (image disk) half (base + 10 * half) closed)))

    pub opened : (after : Disks) → KeepsSure now after disk (base + 10 * half) count → IsSynced after disk → is_open (after.reads disk (base + 10 * half)) ≡ true
        → EachSure after (λ image. cell_in (image disk) base ≡ Some (next found value))
    opened after keeps synced is = record {
      each = λ image has.
          here image (sure_has now after disk (base + 10 * half) count image keeps has) (ap is_open (has.sure disk (base + 10 * half) (synced.each (base + 10 * half))) ∙ is);
    }

-- ---- the first step

-- what disks read as is one of the images that they may leave
pub stands_first : (old now : Disks) (disk base : ℕ) (found : Found) → EachImage old (λ image. cell_in (image disk) base ≡ Some found) → IsImage old old.reads
    → KeepsAll old now disk → IsSynced now disk → CellStands old now disk base found
stands_first old now disk base found each is keeps synced = record {
  keeps = keeps_all old now disk base 20 keeps;
  synced = synced;
  cell = ap (λ (x : Image). cell_in (x disk) base) keeps.reads ∙ each.each old.reads is;
}

pub has_first : (old : Disks) (disk base : ℕ) (found : Found) (image : Image) → cell_in (image disk) base ≡ Some found → HasAllSure old image → HasBefore old disk base found image
has_first old disk base found image is has = record { cell = is; outside = all_has old disk base 20 image has }

pub either_before : (old : Disks) (disk base : ℕ) (found new : Found) (image : Image) → HasBefore old disk base found image → HasEither old disk base found new image
either_before old disk base found new image has = record { cell = inl has.cell; outside = has.outside }
