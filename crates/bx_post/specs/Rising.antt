-- Numbers that rise.
use Rattle.std.specs.Prelude.{ℕ, ◌+◌, ◌<◌, leb, List, [], ◌∷◌, if◌then◌else◌}

-- all are above this one
abbrev pub AreAbove : ℕ → List ℕ → Type 0
AreAbove bound [] = Unit {0}
AreAbove bound (n ∷ rest) = (bound < n) × AreAbove bound rest

-- each is below all that stand behind it
abbrev pub IsRising : List ℕ → Type 0
IsRising [] = Unit {0}
IsRising (n ∷ rest) = AreAbove n rest × IsRising rest

-- how many at the front are at most this bound
abbrev pub places_to : ℕ → List ℕ → ℕ
places_to bound [] = 0
places_to bound (n ∷ rest) = if leb n bound then 1 + places_to bound rest else 0
