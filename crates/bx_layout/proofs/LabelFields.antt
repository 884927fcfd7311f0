-- What a label has at its places.
use Rattle.std.proofs.Common.{◌≡◌, ℕ, ◌-◌, List, length, take, drop, ap, ◌∙◌, arith}
use Rattle.std.specs.Int.{w32, w64, from_be_bytes}
use Rattle.std.proofs.lemmas.Nat.{from_be_bytes-to_be_bytes_4, from_be_bytes-to_be_bytes_8}
use Rattle.bx_layout.specs.declared.label.Label.{Label}
use Rattle.bx_layout.specs.Labels.{SpellsLabel}

abbrev from_place : ℕ → List ℕ → List ℕ
from_place at sector = take (length sector - at) (drop at sector)

word_at : ℕ → List ℕ → ℕ
word_at at sector = from_be_bytes w32 (from_place at sector)

volume_at : List ℕ → ℕ
volume_at sector = from_be_bytes w64 (from_place 12 sector)

pub volume_in : (label : Label) (sector : List ℕ) → SpellsLabel label sector → from_be_bytes w64 (take (length sector - 12) (drop 12 sector)) ≡ label.volume
unfolding volume_at
volume_in label sector s = ap volume_at s.parts ∙ from_be_bytes-to_be_bytes_8 label.volume s.is.volume

pub disk_in : (label : Label) (sector : List ℕ) → SpellsLabel label sector → from_be_bytes w32 (take (length sector - 20) (drop 20 sector)) ≡ label.disk
unfolding word_at
disk_in label sector s = ap (word_at 20) s.parts ∙ from_be_bytes-to_be_bytes_4 label.disk s.is.disk

pub devices_in : (label : Label) (sector : List ℕ) → SpellsLabel label sector → from_be_bytes w32 (take (length sector - 24) (drop 24 sector)) ≡ label.devices
unfolding word_at
devices_in label sector s = ap (word_at 24) s.parts ∙ from_be_bytes-to_be_bytes_4 label.devices (omega (arith, s.is.most_devices))

pub areas_in : (label : Label) (sector : List ℕ) → SpellsLabel label sector → from_be_bytes w32 (take (length sector - 28) (drop 28 sector)) ≡ label.areas
unfolding word_at
areas_in label sector s = ap (word_at 28) s.parts ∙ from_be_bytes-to_be_bytes_4 label.areas (omega (arith, s.is.most_areas))

-- so it is that label
pub same_label : (volume disk devices areas : ℕ) (label : Label) → volume ≡ label.volume → disk ≡ label.disk → devices ≡ label.devices → areas ≡ label.areas
    → record { volume = volume; disk = disk; devices = devices; areas = areas } ≡ label
same_label volume disk devices areas label v d n a = λ i. record { volume = v i; disk = d i; devices = n i; areas = a i }
