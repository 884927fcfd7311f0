-- What holds of all images.
use Rattle.std.specs.Prelude.{◌≡◌, ℕ, false}
use Rattle.bx_disk.specs.Disks.{Image, Disks, IsImage}

-- Each image that a crash may leave has P.
pub record EachImage (disks : Disks) (P : Image → Type 0) : Type 0 where
  pub each : (image : Image) → IsImage disks image → P image

-- The image has all that is sure, and anything at all in the other sectors.
pub record HasAllSure (disks : Disks) (image : Image) : Type 0 where
  pub sure : (d s : ℕ) → disks.unsure d s ≡ false → image d s ≡ disks.reads d s

-- Each image that has all that is sure has P. These are more than those that a crash may leave, in which a sector that
-- isn't sure has 512 bytes.
pub record EachSure (disks : Disks) (P : Image → Type 0) : Type 0 where
  pub each : (image : Image) → HasAllSure disks image → P image
