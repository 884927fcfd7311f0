-- Members of lists that are put together.
use Rattle.std.proofs.Common.{◌≡◌, List, [], ◌∷◌, ◌++◌, refl, sym, ap, ◌∙◌, inl, inr}
use Rattle.std.specs.Prelude.{◌⊎◌}
use Rattle.std.proofs.lemmas.List.{append_assoc}
use Rattle.bx_blink.specs.bx_truth.specs.PageTrees.{IsIn}

pub in_head : {X : Type 0} (x : X) (xs : List X) → IsIn x (x ∷ xs)
in_head x xs = record { before = []; behind = xs; parts = refl }

pub in_tail : {X : Type 0} (x y : X) (xs : List X) → IsIn x xs → IsIn x (y ∷ xs)
in_tail {X = X} x y xs i = record { before = y ∷ i.before; behind = i.behind; parts = ap (λ (zs : List X). y ∷ zs) i.parts }

pub in_cases : {X : Type 0} (x y : X) (xs : List X) → IsIn x (y ∷ xs) → (x ≡ y) ⊎ IsIn x xs
in_cases {X = X} x y xs i = by_before i.before i.parts
  where
    by_before : (before : List X) → y ∷ xs ≡ before ++ x ∷ i.behind → (x ≡ y) ⊎ IsIn x xs
    by_before [] e = inl cc
    by_before (z ∷ zs) e = inr (record { before = zs; behind = i.behind; parts = cc })

pub in_none : {X : Type 0} (x : X) → IsIn x [] → ⊥
in_none {X = X} x i = by_before i.before i.parts
  where
    by_before : (before : List X) → [] ≡ before ++ x ∷ i.behind → ⊥
    by_before [] e = absurd cc
    by_before (z ∷ zs) e = absurd cc

pub in_left : {X : Type 0} (x : X) (xs ys : List X) → IsIn x xs → IsIn x (xs ++ ys)
in_left {X = X} x xs ys i = record { before = i.before; behind = i.behind ++ ys; parts = ap (λ (zs : List X). zs ++ ys) i.parts ∙ append_assoc i.before (x ∷ i.behind) ys }

pub in_right : {X : Type 0} (x : X) (xs ys : List X) → IsIn x ys → IsIn x (xs ++ ys)
in_right {X = X} x xs ys i = record { before = xs ++ i.before; behind = i.behind; parts = ap (λ (zs : List X). xs ++ zs) i.parts ∙ sym (append_assoc xs i.before (x ∷ i.behind)) }

-- it is the middle one, or before it, or behind it
pub in_split : {X : Type 0} (x y : X) (before behind : List X) → IsIn x (before ++ y ∷ behind) → (x ≡ y) ⊎ (IsIn x before ⊎ IsIn x behind)
in_split x y [] behind i = elim (in_cases x y behind i) [ inl e ↦ inl e | inr r ↦ inr (inr r) ]
in_split x y (z ∷ zs) behind i = elim (in_cases x z (zs ++ y ∷ behind) i) [
  | inl e ↦ inr (inl (rw e (in_head z zs)))
  | inr r ↦ elim (in_split x y zs behind r) [
    | inl e ↦ inl e
    | inr (inl b) ↦ inr (inl (in_tail x z zs b))
    | inr (inr b) ↦ inr (inr b)
  ]
]

pub in_middle : {X : Type 0} (y : X) (before behind : List X) → IsIn y (before ++ y ∷ behind)
in_middle y before behind = record { before = before; behind = behind; parts = refl }
