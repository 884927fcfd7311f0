-- Whether the entries that stand in bytes are those of a page.
use Rattle.std.specs.Prelude.{ℕ, zero, suc, Bool, true, ◌==◌, ◌||◌, ◌&&◌, if◌then◌else◌, List, length, Option, Some, None}
use Rattle.bx_base.specs.Reading.{◌>>=◌}
use Rattle.bx_page.specs.Keys.{is_below}
use Rattle.bx_page.specs.Reading.{entry_at}

-- a key may follow the one before it
abbrev pub follows : Option (List ℕ) → List ℕ → Bool
follows None key = true
follows (Some before) key = is_below before key

-- a value may stand in a page of a level
abbrev pub fits_level : ℕ → List ℕ → Bool
fits_level level value = (level == 0) || (length value == 8)

-- the last key is below the high key, where there are both
abbrev pub ends_below : Option (List ℕ) → Option (List ℕ) → Bool
ends_below None high = true
ends_below (Some last) None = true
ends_below (Some last) (Some high) = is_below last high

-- The bytes behind as many entries as are wanted, each of which may follow the one before it, in a page of a level with a high key.
unfoldable pub rest_behind : ℕ → Option (List ℕ) → ℕ → Option (List ℕ) → List ℕ → Option (List ℕ)
rest_behind level high zero before bytes = if ends_below before high then Some bytes else None
rest_behind level high (suc n) before bytes =
    entry_at bytes >>= λ x. if follows before x.0.key && fits_level level x.0.value then rest_behind level high n (Some x.0.key) x.1 else None
