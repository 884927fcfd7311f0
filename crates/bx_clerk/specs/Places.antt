-- How the blocks are kept that are asked back: each in a place, which is the session that asks and a turn, and besides the places of each block.
use Rattle.std.specs.Prelude.{◌≡◌, ℕ, zero, suc, ◌<◌, ltb, ◌==◌, Bool, filter, map, List, [], ◌∷◌, Option, Some, None, Vec, if◌then◌else◌}
use Rattle.std.specs.List.{AllByRecursion}
use Rattle.std.specs.BTreeMap.{BTreeMap, IsOrdered, get, keys, is_at as is_at_key}
use Rattle.std.specs.Map.{keys_of, remove_entry}
use Rattle.std.specs.declared.cmp.Ordering.{Ordering}
use Rattle.std.specs.Ordering.{nat_cmp, ordering_then}

-- a session and a turn
abbrev pub Place : Type 0
Place = ℕ × ℕ

-- by the session, and then by the turn
abbrev pub key_cmp : Place → Place → Ordering
key_cmp place other = ordering_then (nat_cmp place.0 other.0) (nat_cmp place.1 other.1)

-- blocks in their places
abbrev pub Line : Type 0
Line = List (Place × ℕ)

-- each block with the session that asks
abbrev pub asks_of : Line → List (ℕ × ℕ)
asks_of line = map (λ entry. (entry.1, entry.0.0)) line

abbrev pub is_at : ℕ → Place × ℕ → Bool
is_at block entry = entry.1 == block

-- what stands in these places goes
abbrev pub without_places : List Place → Line → Line
without_places [] line = line
without_places (place ∷ places) line = without_places places (remove_entry (is_at_key (key_cmp place)) line)

-- behind those of the same session and of lower ones
abbrev pub put_place : Place → List Place → List Place
put_place place [] = place ∷ []
put_place place (one ∷ rest) = if ltb place.0 one.0 then place ∷ one ∷ rest else one ∷ put_place place rest

-- where the first one of a higher session stands
abbrev pub place_in : ℕ → List Place → ℕ
place_in asking [] = zero
place_in asking (one ∷ rest) = if ltb asking one.0 then zero else suc (place_in asking rest)

abbrev pub items_or_none : {A : Type 0} → Option (Vec Place A) → List Place
items_or_none None = []
items_or_none (Some places) = places.items

-- the places of a block
abbrev pub places_at : {A : Type 0} → BTreeMap ℕ (Vec Place A) → ℕ → List Place
places_at blocks block = items_or_none (get nat_cmp blocks block)

-- The places rise, and the next turn is above all of theirs; the places of each block are found.
pub record AreAsks {A : Type 0} (next : ℕ) (line : BTreeMap Place ℕ) (blocks : BTreeMap ℕ (Vec Place A)) : Type 0 where
  pub rises : IsOrdered key_cmp line
  pub below : AllByRecursion (λ place. place.1 < next) (keys line)
  pub by_block : (block : ℕ) → places_at blocks block ≡ keys_of (filter (is_at block) line.entries)
