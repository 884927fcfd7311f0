-- Sums and counts over what is left of a list.
use Rattle.std.proofs.Common.{◌≡◌, ℕ, ◌+◌, Bool, cond, List, [], ◌∷◌, ap, ◌∙◌, refl}
use Rattle.std.specs.Prelude.{count_by, sum_by}
use Rattle.std.proofs.lemmas.List.Sums.{sum_by-cons}

pub sum_step : {X : Type 0} (f : X → ℕ) (x : X) (rest xs : List X) → xs ≡ x ∷ rest → sum_by f xs ≡ f x + sum_by f rest
sum_step f x rest xs is = ap (sum_by f) is ∙ sum_by-cons f x rest

pub count_step : {X : Type 0} (p : X → Bool) (x : X) (rest xs : List X) → xs ≡ x ∷ rest → count_by p xs ≡ cond (p x) 1 0 + count_by p rest
count_step p x rest xs is = sum_step (λ y. cond (p y) 1 0) x rest xs is

pub count_none : {X : Type 0} (p : X → Bool) (xs : List X) → xs ≡ [] → count_by p xs ≡ 0
count_none p xs is = ap (count_by p) is ∙ refl

pub sum_none : {X : Type 0} (f : X → ℕ) (xs : List X) → xs ≡ [] → sum_by f xs ≡ 0
sum_none f xs is = ap (sum_by f) is ∙ refl
