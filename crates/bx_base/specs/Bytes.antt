-- Lists of bytes, and numbers as bytes.
use Rattle.std.specs.Prelude.{ℕ, ◌<◌, List, slice_index}
use Rattle.std.specs.List.{flat_map}
use Rattle.std.specs.Int.{w32, to_be_bytes}

-- every element is a byte
abbrev pub IsBytes : List ℕ → Type 0
IsBytes bytes = (i : ℕ) → slice_index bytes i < 256

-- each number as a word of four bytes, the highest byte first
abbrev pub words : List ℕ → List ℕ
words numbers = flat_map (to_be_bytes w32) numbers
