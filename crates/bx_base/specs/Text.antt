-- Text in lines, and lines in fields.
use Rattle.std.specs.Prelude.{◌≡◌, ℕ, ◌<◌, ◌≢◌, ◌==◌, if◌then◌else◌, List, [], ◌∷◌, ◌++◌, length, slice_index, ◌⊎◌}
use Rattle.std.specs.List.{flat_map, join_with_byte}
use Rattle.std.specs.Int.{w64, to_be_bytes}
use Rattle.hex.specs.Hex.{encode_lower}

-- fields with one space between each two
abbrev pub spaced : List (List ℕ) → List ℕ
spaced fields = join_with_byte 32 fields

-- a number of 64 bits as 16 hex digits
abbrev pub sixteen_digits : ℕ → List ℕ
sixteen_digits n = encode_lower (to_be_bytes w64 n)

-- a line with the line feed that ends it
abbrev pub ended : List ℕ → List ℕ
ended line = line ++ 10 ∷ []

-- lines one after the other, each with its line feed
abbrev pub text_of : List (List ℕ) → List ℕ
text_of lines = flat_map ended lines

-- a byte in front of the first line
abbrev pub onto_first : ℕ → List (List ℕ) → List (List ℕ)
onto_first c [] = (c ∷ []) ∷ []
onto_first c (line ∷ lines) = (c ∷ line) ∷ lines

-- The lines of a text. Each ends with a line feed, which the last one may lack; what follows the last line
-- feed is a line where it isn't empty.
abbrev pub lines_of : List ℕ → List (List ℕ)
lines_of [] = []
lines_of (c ∷ cs) = if c == 10 then [] ∷ lines_of cs else onto_first c (lines_of cs)

-- no line feed is among the bytes
abbrev pub LacksFeed : List ℕ → Type 0
LacksFeed bytes = (i : ℕ) → slice_index bytes i ≢ 10

-- The text begins with this line, and the rest comes behind it. The last line may lack its line feed.
pub record BeginsWith (text line rest : List ℕ) : Type 0 where
  pub lacks : LacksFeed line
  pub parts : (text ≡ ended line ++ rest) ⊎ ((text ≡ line) × (0 < length line) × (rest ≡ []))
