-- What a cell holds, read off the sectors of a disk. A half of it begins with a sector that is its gate, then comes its
-- header, then eight sectors of value.
use Rattle.std.specs.Prelude.{ℕ, zero, suc, ◌+◌, Bool, ◌&&◌, nat_le, nat_lt, if◌then◌else◌, bytes_eq, List, [], ◌++◌, take, drop, Option, Some, None}
use Rattle.std.specs.Int.{w32, w64, from_be_bytes}
use Rattle.bx_layout.specs.Labels.{gate_word}

-- what is found: in which half (0 or 1), under which number, and the value
pub record Found : Type 0 where
  pub half : ℕ
  pub number : ℕ
  pub value : List ℕ

-- whether a gate is open: its first eight bytes are the word
unfoldable pub is_open : List ℕ → Bool
is_open gate = bytes_eq (take 8 gate) gate_word

-- the number in a header, its first eight bytes; and the length of the value, the next four
unfoldable pub number_in : List ℕ → ℕ
number_in header = from_be_bytes w64 header

unfoldable pub length_in : List ℕ → ℕ
length_in header = from_be_bytes w32 (drop 8 header)

-- the bytes of so many sectors from one on, one behind the other
unfoldable pub joined : (ℕ → List ℕ) → ℕ → ℕ → List ℕ
joined sectors from zero = []
joined sectors from (suc count) = sectors from ++ joined sectors (from + 1) count

-- what a half has, by its gate, its header and the sectors of its value: nothing unless the gate is open and the length
-- is at most 4096
unfoldable pub half_of : ℕ → List ℕ → List ℕ → List ℕ → Option Found
half_of half gate header area =
    if is_open gate && nat_le (length_in header) 4096
    then Some (record { half = half; number = number_in header; value = take (length_in header) area })
    else None

-- what the half has that begins at a sector
unfoldable pub half_at : (ℕ → List ℕ) → ℕ → ℕ → Option Found
half_at sectors half start = half_of half (sectors start) (sectors (start + 1)) (joined sectors (start + 2) 8)

-- of what two halves have, that with the greater number; the first where both numbers are equal
unfoldable pub better : Option Found → Option Found → Option Found
better None other = other
better (Some first) None = Some first
better (Some first) (Some other) = if nat_lt first.number other.number then Some other else Some first

-- what the cell has that begins at a sector: half 0 begins there, and half 1 ten sectors behind
unfoldable pub cell_in : (ℕ → List ℕ) → ℕ → Option Found
cell_in sectors base = better (half_at sectors 0 base) (half_at sectors 1 (base + 10))
