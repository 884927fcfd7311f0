-- Pieces of 4096 bytes, by their indexes.
use Rattle.std.specs.Prelude.{◌≡◌, ℕ, ◌/◌, ◌%◌, length, slice_index, Option, Some, None, IfSome, IsSome, Vec}
use Rattle.std.specs.BTreeMap.{get}
use Rattle.std.specs.Ordering.{nat_cmp}
use Rattle.bx_tree_parts.specs.declared.pieces.Pieces.{Pieces}

-- the byte at a place of a piece; zero where there is none
abbrev pub byte_in : {A : Type 0} → Option (Vec ℕ A) → ℕ → ℕ
byte_in None place = 0
byte_in (Some piece) place = slice_index piece.items place

-- the byte at a place
abbrev pub byte_at : Pieces → ℕ → ℕ
byte_at pieces place = byte_in (get nat_cmp pieces.by_index (place / 4096)) (place % 4096)

-- there is a piece with an index
abbrev pub IsHeld : Pieces → ℕ → Type 0
IsHeld pieces index = IsSome (get nat_cmp pieces.by_index index)

-- each piece has 4096 bytes
abbrev pub AreWhole : Pieces → Type 0
AreWhole pieces = (index : ℕ) → IfSome (get nat_cmp pieces.by_index index) (λ piece. length piece.items ≡ 4096)
