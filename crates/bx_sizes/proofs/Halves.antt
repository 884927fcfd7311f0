-- The last piece is looked for by halves.
use Rattle.std.proofs.Common.{◌≡◌, ℕ, ◌+◌, ◌<◌, ◌≤◌, ◌⊎◌, inl, inr, arith, List, Option, Some, None}
use Rattle.std.proofs.lemmas.Bool.{cases_lt}
use Rattle.bx_page.specs.declared.entry.Entry.{Entry}
use Rattle.bx_page.specs.Contents.{value_of}
use Rattle.bx_truth.specs.Keys.{content_key}
use Rattle.bx_truth.specs.PageTrees.{handle_in}
use Rattle.bx_sizes.specs.Clearing.{HasNone, IsLastPiece}
use Rattle.bx_sizes.specs.FirstPieces.{HasPiece}

-- what was found is right below where the search goes on; nothing was found where it goes on from its beginning
abbrev pub IsFoundBelow : ℕ → ℕ → ℕ → Option ℕ → Type 0
IsFoundBelow from low end None = low ≡ from
IsFoundBelow from low end (Some index) = (low ≡ index + 1) × (from ≤ index) × (index < end)

-- a piece that was found is there
abbrev pub IsThere : List Entry → Option ℕ → Type 0
IsThere map None = Unit {0}
IsThere map (Some index) = HasPiece map index

-- no piece in one range, nor in that behind it
pub none_joined : (map : List Entry) (from middle end : ℕ) → HasNone map from middle → HasNone map middle end → HasNone map from end
none_joined map from middle end none behind index above below = by (cases_lt index middle)
  where
    by : (index < middle) ⊎ (middle ≤ index) → value_of map (content_key index) ≡ None
    by (inl less) = none index above less
    by (inr past) = behind index past below

pub none_at_all : (map : List Entry) (from low high end : ℕ) → low ≡ from → high ≤ low → HasNone map high end → HasNone map from end
none_at_all map from low high end one past none index above below = none index (omega (arith, above, one, past)) below

pub last_found : (map : List Entry) (from low high end index names : ℕ) (value : List ℕ) → IsFoundBelow from low end (Some index) → high ≤ low → HasNone map high end → value_of map (content_key index) ≡ Some value
    → names ≡ handle_in value → IsLastPiece map from end index names
last_found map from low high end index names value within past none is names_is = record {
  above = within.1;
  below = within.2;
  value = value;
  is = is;
  names_is = names_is;
  behind = λ other above below. none other (omega (arith, above, within.0, past)) below;
}

pub never : (value : List ℕ) → Some value ≡ None → ⊥
never value e = cc
