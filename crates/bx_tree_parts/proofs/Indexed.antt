-- Maps with names as keys, and the numbers of a directory's entries by their names.
use Rattle.std.proofs.Common.{◌≡◌, ℕ, Bool, true, false, cond, List, Option, refl, sym, subst, ◌∙◌, Vec, Global}
use Rattle.std.specs.Prelude.{bytes_eq}
use Rattle.std.specs.BTreeMap.{BTreeMap, UpdatesBy, get_by}
use Rattle.std.specs.Cmp.{eq_by_cmp_equiv}
use Rattle.std.specs.Cmp.Lexicographic.{slice_cmp}
use Rattle.std.specs.Map.{lookup, AreApart as NoneBoth, IsKeyTest, KeepsOthers}
use Rattle.std.specs.Ordering.{is_eq, nat_cmp}
use Rattle.std.proofs.lemmas.Bool.{cases_Bool, cond-true, cond-false}
use Rattle.std.proofs.lemmas.Cmp.{nat_list_cmp_total}
use Rattle.std.proofs.lemmas.Map.Text.{is_eq-slice_cmp}
use Rattle.std.proofs.lemmas.Slice.Eq.{bytes_eq-Decides}
use Rattle.std.proofs.Math.Logic.{⊎_elim}

other_entries : {K X : Type 0} (eq : K → K → Bool) (test : K → Bool) (old new : List (K × X)) → KeepsOthers eq test old new → (other : K → Bool) → IsKeyTest eq other → NoneBoth test other
    → lookup other new ≡ lookup other old
unfolding KeepsOthers
other_entries eq test old new keeps = keeps

apart : (bs cs ks : List ℕ) → bytes_eq bs cs ≡ false → is_eq (slice_cmp nat_cmp bs ks) ≡ true → is_eq (slice_cmp nat_cmp cs ks) ≡ false
apart bs cs ks differ here = by (is_eq (slice_cmp nat_cmp cs ks)) refl
  where
    by : (b : Bool) → is_eq (slice_cmp nat_cmp cs ks) ≡ b → b ≡ false
    by false is = refl
    by true is =
        let one : bs ≡ ks = (bytes_eq-Decides bs ks).0 (sym (is_eq-slice_cmp bs ks) ∙ here) in
        let other : cs ≡ ks = (bytes_eq-Decides cs ks).0 (sym (is_eq-slice_cmp cs ks) ∙ is) in
        let same : bytes_eq bs cs ≡ true = (bytes_eq-Decides bs cs).1 (one ∙ sym other) in
        absurd cc

by_names : (f g : List ℕ → Option ℕ) (name : List ℕ) (w : Option ℕ) → g name ≡ w → ((other : List ℕ) → bytes_eq name other ≡ false → g other ≡ f other) → (other : List ℕ)
    → g other ≡ cond (bytes_eq name other) w (f other)
by_names f g name w here others other =
    ⊎_elim
    (λ (is : bytes_eq name other ≡ true). subst (λ (x : List ℕ). g x ≡ w) ((bytes_eq-Decides name other).0 is) here ∙ sym (cond-true (bytes_eq name other) w (f other) is))
    (λ (is : bytes_eq name other ≡ false). others other is ∙ sym (cond-false (bytes_eq name other) w (f other) is))
    (cases_Bool (bytes_eq name other))

-- what a map has at other names after a change at one
pub number_after : (name : List ℕ) (old new : BTreeMap (Vec ℕ Global) ℕ) (w : Option ℕ)
    → UpdatesBy (λ x y. slice_cmp nat_cmp x.items y.items) (λ key. slice_cmp nat_cmp name key.items) old new w → (other : List ℕ)
    → get_by (λ key. slice_cmp nat_cmp other key.items) new ≡ cond (bytes_eq name other) w (get_by (λ key. slice_cmp nat_cmp other key.items) old)
number_after name old new w updates =
    by_names (λ other. get_by (λ (key : Vec ℕ Global). slice_cmp nat_cmp other key.items) old) (λ other. get_by (λ (key : Vec ℕ Global). slice_cmp nat_cmp other key.items) new) name w updates.1
    (λ other differ. other_entries _ _ _ _ updates.3 _ (λ x y. (eq_by_cmp_equiv nat_list_cmp_total).congr other x.items y.items) (λ key. apart name other key.items differ))
