-- Laws of the order of keys.
use Rattle.std.proofs.Common.{◌≡◌, ℕ, true, false, List, Ordering, Less, Equal, Greater, refl, sym, ap, ◌∙◌}
use Rattle.std.specs.Prelude.{bytes_eq}
use Rattle.std.specs.Ordering.{is_lt, is_eq, nat_cmp, ordering_reverse}
use Rattle.std.specs.Cmp.Lexicographic.{slice_cmp}
use Rattle.std.proofs.lemmas.Cmp.{nat_list_cmp_total, tied_itself}
use Rattle.std.proofs.lemmas.Map.Text.{is_eq-slice_cmp}
use Rattle.std.proofs.lemmas.Slice.Eq.{bytes_eq-Decides}
use Rattle.bx_page.specs.Keys.{is_below, IsBelow}

less_from_test : (o : Ordering) → is_lt o ≡ true → o ≡ Less
less_from_test Less h = refl
less_from_test Equal h = absurd cc
less_from_test Greater h = absurd cc

pub below_cmp : (a b : List ℕ) → IsBelow a b → slice_cmp nat_cmp a b ≡ Less
below_cmp a b h = less_from_test (slice_cmp nat_cmp a b) h

pub below_trans : (a b c : List ℕ) → IsBelow a b → IsBelow b c → IsBelow a c
below_trans a b c h k = ap is_lt (nat_list_cmp_total.trans a b c (below_cmp a b h) (below_cmp b c k))

pub not_below_itself : (a : List ℕ) → is_below a a ≡ false
not_below_itself a = ap is_lt (tied_itself nat_list_cmp_total a)

pub not_below_back : (a b : List ℕ) → IsBelow a b → is_below b a ≡ false
not_below_back a b h = ap is_lt (nat_list_cmp_total.antisymm b a ∙ ap ordering_reverse (below_cmp a b h))

-- keys that compare as equal are the same
pub same_from_cmp : (a b : List ℕ) → slice_cmp nat_cmp a b ≡ Equal → a ≡ b
same_from_cmp a b h = (bytes_eq-Decides a b).0 (sym (is_eq-slice_cmp a b) ∙ ap is_eq h)

-- a key isn't another that is below it, or above it
pub not_same_below : (a b : List ℕ) → IsBelow a b → bytes_eq a b ≡ false
not_same_below a b h = sym (is_eq-slice_cmp a b) ∙ ap is_eq (below_cmp a b h)

pub not_same_above : (a b : List ℕ) → IsBelow b a → bytes_eq a b ≡ false
not_same_above a b h = sym (is_eq-slice_cmp a b) ∙ ap is_eq (nat_list_cmp_total.antisymm a b ∙ ap ordering_reverse (below_cmp b a h))

pub same_itself : (a : List ℕ) → bytes_eq a a ≡ true
same_itself a = (bytes_eq-Decides a a).1 refl

pub greater_cmp : (a b : List ℕ) → slice_cmp nat_cmp a b ≡ Greater → IsBelow b a
greater_cmp a b h = ap is_lt (nat_list_cmp_total.antisymm b a ∙ ap ordering_reverse h)
