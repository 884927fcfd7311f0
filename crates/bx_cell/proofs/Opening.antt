-- The cell that was read is the one that images hold.
use Rattle.std.proofs.Common.{◌≡◌, ℕ, ◌+◌, ◌<◌, List, length, sym, ap, ◌∙◌, arith}
use Rattle.bx_disk.specs.Disks.{Image, Disks, sector_of}
use Rattle.bx_calls.specs.Regions.{ReadsAs, IsSynced}
use Rattle.bx_calls.specs.Calls.{KeepsAll}
use Rattle.bx_cell.specs.Halves.{cell_in}
use Rattle.bx_cell.specs.Images.{HasAllSure}
use Rattle.bx_cell.proofs.Sectors.{half_same}
use Rattle.bx_cell.proofs.Chosen.{cell_same}

-- The cells of two disks, each from its own sector on, are one where their twenty sectors are alike.
pub cell_alike : (x y : ℕ → List ℕ) (a b : ℕ) → ((i : ℕ) → i < 20 → x (a + i) ≡ y (b + i)) → cell_in x a ≡ cell_in y b
cell_alike x y a b same =
    cell_same x y a b (half_same x y 0 a b (λ i less. same i (omega arith)))
    (half_same x y 1 (a + 10) (b + 10) (λ i less. there x a i ∙ same (10 + i) (omega arith) ∙ sym (there y b i)))
  where
    there : (z : ℕ → List ℕ) (at i : ℕ) → z (at + 10 + i) ≡ z (at + (10 + i))
    there z at i = ap z (omega arith)

pub cell_read : (image : Image) (disk base : ℕ) (bytes : List ℕ) → length bytes ≡ 10240 → ReadsAs image disk base bytes → cell_in (image disk) base ≡ cell_in (sector_of bytes) 0
cell_read image disk base bytes long reads =
    cell_alike (image disk) (sector_of bytes) base 0 (λ i less. reads.each i (omega arith) ∙ same i)
  where
    same : (i : ℕ) → sector_of bytes i ≡ sector_of bytes (0 + i)
    same i = ap (sector_of bytes) (omega arith)

pub cell_held : (old now : Disks) (disk base : ℕ) (bytes : List ℕ) (image : Image) → KeepsAll old now disk → IsSynced now disk → length bytes ≡ 10240 → ReadsAs old.reads disk base bytes
    → HasAllSure now image → cell_in (image disk) base ≡ cell_in (sector_of bytes) 0
cell_held old now disk base bytes image keeps synced long reads has =
    cell_alike (image disk) (old.reads disk) base base (λ i less. has.sure disk (base + i) (synced.each (base + i)) ∙ ap (λ (x : Image). x disk (base + i)) keeps.reads)
    ∙ cell_read old.reads disk base bytes long reads
