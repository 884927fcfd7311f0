-- A sector that was read whole.
use Rattle.std.proofs.Common.{◌≡◌, ℕ, List, length, ◌∙◌, arith}
use Rattle.std.proofs.lemmas.List.{take_all}
use Rattle.bx_calls.specs.Regions.{ReadsAs}
use Rattle.bx_disk.specs.Disks.{Image, sector_of}

one_sector : (bytes : List ℕ) → length bytes ≡ 512 → sector_of bytes 0 ≡ bytes
unfolding sector_of
one_sector bytes long = take_all 512 bytes (omega (arith, long))

pub first_sector : (image : Image) (disk : ℕ) (bytes : List ℕ) → length bytes ≡ 512 → ReadsAs image disk 0 bytes → image disk 0 ≡ bytes
first_sector image disk bytes long reads = reads.each 0 (omega (arith, long)) ∙ one_sector bytes long
