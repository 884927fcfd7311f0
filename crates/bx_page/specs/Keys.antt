-- Keys are lists of bytes, in the order of their bytes: a list is below those that it begins.
use Rattle.std.specs.Prelude.{ℕ, Bool, IsTrue, List}
use Rattle.std.specs.Ordering.{is_lt, nat_cmp}
use Rattle.std.specs.Cmp.Lexicographic.{slice_cmp}

-- whether a key is below another
abbrev pub is_below : List ℕ → List ℕ → Bool
is_below a b = is_lt (slice_cmp nat_cmp a b)

abbrev pub IsBelow : List ℕ → List ℕ → Type 0
IsBelow a b = IsTrue (is_below a b)
