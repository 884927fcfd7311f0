-- Labels of disks, and gates: sectors that are open or closed.
use Rattle.std.specs.Prelude.{◌≡◌, ℕ, ◌^◌, ◌<◌, ◌≤◌, List, [], ◌∷◌, ◌++◌, take, replicate}
use Rattle.std.specs.Int.{w32, w64, to_be_bytes}
use Rattle.bx_base.specs.Writing.{padded}
use Rattle.bx_layout.specs.declared.label.Label.{Label}
use Rattle.bx_layout.specs.declared.gate.Gate.{Gate}
use Rattle.bx_layout.specs.declared.gate.Gate.TheVariants.{Open, Closed}

-- BXDISK01
abbrev pub disk_word : List ℕ
disk_word = 66 ∷ 88 ∷ 68 ∷ 73 ∷ 83 ∷ 75 ∷ 48 ∷ 49 ∷ []

-- what every label has
pub record IsLabel (label : Label) : Type 0 where
  pub volume : label.volume < 2 ^ 64
  pub disk : label.disk < 2 ^ 32
  pub least_devices : 1 ≤ label.devices
  pub most_devices : label.devices ≤ 4
  pub least_areas : 1 ≤ label.areas
  pub most_areas : label.areas ≤ 64

-- the word, the version 1, and the fields
abbrev pub label_text : Label → List ℕ
label_text label =
    disk_word ++ (to_be_bytes w32 1 ++ (to_be_bytes w64 label.volume ++ (to_be_bytes w32 label.disk ++ (to_be_bytes w32 label.devices ++ to_be_bytes w32 label.areas))))

-- the sector is this label
pub record SpellsLabel (label : Label) (sector : List ℕ) : Type 0 where
  pub is : IsLabel label
  pub parts : sector ≡ padded 512 (label_text label)

-- BXGATE01
abbrev pub gate_word : List ℕ
gate_word = 66 ∷ 88 ∷ 71 ∷ 65 ∷ 84 ∷ 69 ∷ 48 ∷ 49 ∷ []

-- a gate is open: its first eight bytes are the word
abbrev pub IsOpenGate : List ℕ → Type 0
IsOpenGate sector = take 8 sector ≡ gate_word

-- what is written to open a gate, and to close it
abbrev pub gate_text : Gate → List ℕ
gate_text Open = padded 512 gate_word
gate_text Closed = replicate 512 0
