-- Handles kept in a set.
use Rattle.std.proofs.Common.{◌≡◌, ℕ, Bool, true, false, cond, eqb, ltb, List, [], ◌∷◌, ◌||◌, refl, ap, ◌∙◌, arith}
use Rattle.std.specs.List.{list_any}
use Rattle.std.specs.BTreeMap.{is_at}
use Rattle.std.specs.BTreeSet.{insert_key}
use Rattle.std.specs.Set.{remove_key}
use Rattle.std.specs.Ordering.{is_eq, nat_cmp, match_ordering}
use Rattle.std.proofs.lemmas.Bool.Decides.{nat_tests}
use Rattle.bx_tree_parts.specs.Given.{with_handle, without_handle}

same_test : (x y : ℕ) → is_eq (nat_cmp x y) ≡ eqb y x
same_test x y = grind (arith, nat_tests)

same_choice : {X : Type 0} (x y : ℕ) (a b c : X) → match_ordering (nat_cmp x y) a b c ≡ cond (eqb y x) b (cond (ltb x y) a c)
same_choice x y a b c = grind (arith, nat_tests)

pub among : (handle : ℕ) (hs : List ℕ) → list_any (is_at (nat_cmp handle)) hs ≡ list_any (λ other. eqb other handle) hs
among handle [] = refl
among handle (h ∷ hs) = rw (same_test handle h) (ap (λ (later : Bool). eqb h handle || later) (among handle hs))

pub seen_with : (handle : ℕ) (hs : List ℕ) → insert_key nat_cmp hs handle ≡ with_handle hs handle
seen_with handle [] = refl
seen_with handle (h ∷ hs) =
    same_choice handle h (handle ∷ h ∷ hs) (h ∷ hs) (h ∷ insert_key nat_cmp hs handle)
    ∙ ap (λ (others : List ℕ). cond (eqb h handle) (h ∷ hs) (cond (ltb handle h) (handle ∷ h ∷ hs) (h ∷ others))) (seen_with handle hs)

pub seen_without : (handle : ℕ) (hs : List ℕ) → remove_key (is_at (nat_cmp handle)) hs ≡ without_handle hs handle
seen_without handle [] = refl
seen_without handle (h ∷ hs) = rw (same_test handle h) (ap (λ (others : List ℕ). cond (eqb h handle) hs (h ∷ others)) (seen_without handle hs))

same_number : (n : ℕ) → eqb n n ≡ true
same_number n = grind (arith, nat_tests)

-- a handle that comes and goes leaves the others as they were
back_by : (b below : Bool) (handle h : ℕ) (hs others : List ℕ) → eqb h handle ≡ b → (b || list_any (λ other. eqb other handle) hs) ≡ false
    → (list_any (λ other. eqb other handle) hs ≡ false → without_handle others handle ≡ hs)
    → without_handle (cond b (h ∷ hs) (cond below (handle ∷ h ∷ hs) (h ∷ others))) handle ≡ h ∷ hs
back_by true below handle h hs others here none later = absurd cc
back_by false true handle h hs others here none later = rw (same_number handle) refl
back_by false false handle h hs others here none later = rw here (ap (λ (rest : List ℕ). h ∷ rest) (later none))

pub without-with : (handle : ℕ) (hs : List ℕ) → list_any (λ other. eqb other handle) hs ≡ false → without_handle (with_handle hs handle) handle ≡ hs
without-with handle [] none = rw (same_number handle) refl
without-with handle (h ∷ hs) none = back_by (eqb h handle) (ltb handle h) handle h hs (with_handle hs handle) refl none (without-with handle hs)
