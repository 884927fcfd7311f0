use Rattle.std.proofs.Common.{◌≡◌, ◌<◌, ℕ, ◌+◌, ◌/◌, List, length, arith, sym}
use Rattle.bx_disk.specs.Disks.{Image, sector_of}
use Rattle.bx_calls.specs.Regions.{ReadsAs}
use Rattle.bx_calls.proofs.calls.read_sectors.Goals as goal

reads_as : (image : Image) (disk sector n : ℕ) (bytes : List ℕ) → length bytes ≡ n → ((i : ℕ) → i < n / 512 → sector_of bytes i ≡ image disk (sector + i)) → ReadsAs image disk sector bytes
reads_as image disk sector n bytes same each = record { each = λ i less. sym (each i (omega (arith, same))) }

pub returns-clause-bytes : goal.returns-clause-bytes
returns-clause-bytes g c = λ tells. reads_as _ _ _ _ _ c.read.auto.into (c.in_ok-read.ensures.bytes tells)
