-- Images and the regions that are written.
use Rattle.std.proofs.Common.{◌≡◌, ℕ, ◌+◌, ◌<◌, ◌≤◌, ◌⊎◌, ⊎_elim, ◌∙◌}
use Rattle.bx_disk.specs.Disks.{Image, Disks, IsImage}
use Rattle.bx_calls.specs.Regions.{IsSynced}
use Rattle.bx_calls.specs.Calls.{KeepsSure, HasSure}
use Rattle.bx_cell.specs.Images.{EachImage, HasAllSure, EachSure}

-- An image of a disk that was synced is as the disk outside the region that was written since.
pub agrees : (old : Disks) (disk sector count : ℕ) (image : Image) → IsSynced old disk → HasSure old disk sector count image
    → (s : ℕ) → (s < sector) ⊎ (sector + count ≤ s) → image disk s ≡ old.reads disk s
agrees old disk sector count image synced has s side =
    ⊎_elim (λ less. has.outside.before s less (synced.each s)) (λ more. has.outside.behind s more (synced.each s)) side

-- what disks read as after a call is such an image
pub reads_has : (old new : Disks) (disk sector count : ℕ) → KeepsSure old new disk sector count → HasSure old disk sector count new.reads
reads_has old new disk sector count keeps = record {
  outside = record {
    elsewhere = λ d s other sure. keeps.reads.elsewhere d s other;
    before = λ s less sure. keeps.reads.before s less;
    behind = λ s more sure. keeps.reads.behind s more;
  };
}

-- and so is each that has all that is sure after it
pub sure_has : (old new : Disks) (disk sector count : ℕ) (image : Image) → KeepsSure old new disk sector count → HasAllSure new image → HasSure old disk sector count image
sure_has old new disk sector count image keeps has = record {
  outside = record {
    elsewhere = λ d s other sure. has.sure d s (keeps.sure.elsewhere d s other sure) ∙ keeps.reads.elsewhere d s other;
    before = λ s less sure. has.sure disk s (keeps.sure.before s less sure) ∙ keeps.reads.before s less;
    behind = λ s more sure. has.sure disk s (keeps.sure.behind s more sure) ∙ keeps.reads.behind s more;
  };
}

pub image_all : (disks : Disks) (image : Image) → IsImage disks image → HasAllSure disks image
image_all disks image is = record { sure = is.sure }

pub all_has : (disks : Disks) (disk sector count : ℕ) (image : Image) → HasAllSure disks image → HasSure disks disk sector count image
all_has disks disk sector count image has = record {
  outside = record { elsewhere = λ d s other. has.sure d s; before = λ s less. has.sure disk s; behind = λ s more. has.sure disk s };
}

pub each_image : (disks : Disks) (P : Image → Type 0) → EachSure disks P → EachImage disks P
each_image disks P each = record { each = λ image is. each.each image (image_all disks image is) }
