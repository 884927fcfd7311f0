-- A set in which nothing is.
use Rattle.std.proofs.Common.{◌≡◌, ℕ, inl, inr, Bool, true, false, ◌||◌, List, [], ◌∷◌, length, refl}
use Rattle.std.specs.Prelude.{IsTrue, IsFalse}
use Rattle.std.specs.List.{list_any}
use Rattle.std.specs.BTreeMap.{is_at}
use Rattle.std.specs.BTreeSet.{BTreeSet, btree_set_len}
use Rattle.std.specs.Ordering.{nat_cmp}
use Rattle.bx_audit_links.specs.Reached.{has}
use Rattle.bx_audit_links.proofs.ReachedOnes.{same_test}
use Rattle.bx_tree_laws.proofs.Lookups.{SameOr, same_or}

none_in : (keys : List ℕ) → length keys ≡ 0 → (handle : ℕ) → list_any (is_at (nat_cmp handle)) keys ≡ false
none_in [] none handle = refl
none_in (key ∷ keys) none handle = absurd cc

empty_if : (keys : List ℕ) → ((handle : ℕ) → list_any (is_at (nat_cmp handle)) keys ≡ false) → length keys ≡ 0
empty_if [] none = refl
empty_if (key ∷ keys) none = by (same_or key key)
  where
    by : SameOr key key → length (key ∷ keys) ≡ 0
    by (inr other) = absurd (other.1 refl)
    by (inl same) = let is : (is_at (nat_cmp key) key || list_any (is_at (nat_cmp key)) keys) ≡ false = none key in
        let both : true ≡ false = rw (same_test key key, same.0) at is in absurd cc

pub none_has : (set : BTreeSet ℕ) → btree_set_len set ≡ 0 → (handle : ℕ) → has set handle ≡ false
none_has set none handle = none_in set.keys none handle

pub is_empty_if : (set : BTreeSet ℕ) → ((handle : ℕ) → has set handle ≡ false) → btree_set_len set ≡ 0
is_empty_if set none = empty_if set.keys none

pub not_both : (b : Bool) → IsTrue b → IsFalse b → ⊥
not_both true is isnt = absurd cc
not_both false is isnt = absurd cc
