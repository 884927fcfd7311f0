-- The bytes of a cell: what is written of a half, and what is found in bytes that were read.
use Rattle.std.specs.Prelude.{ℕ, ◌+◌, ◌*◌, List, ◌++◌, length, take, drop}
use Rattle.std.specs.Int.{w32, w64, to_be_bytes}
use Rattle.bx_base.specs.Writing.{padded}
use Rattle.bx_cell.specs.Halves.{Found}

-- the header of a half, and the eight sectors of its value
abbrev pub header_text : ℕ → List ℕ → List ℕ
header_text number value = padded 512 (to_be_bytes w64 number ++ to_be_bytes w32 (length value))

abbrev pub body_text : ℕ → List ℕ → List ℕ
body_text number value = header_text number value ++ padded 4096 value

-- what a half has, by its number and the length of its value, of the bytes of the whole cell
abbrev pub found_at : ℕ → ℕ → ℕ → List ℕ → Found
found_at half number len bytes = record { half = half; number = number; value = take len (drop (5120 * half + 1024) bytes) }
