-- What is contained in a list, from its first one on.
use Rattle.std.proofs.Common.{◌≡◌, List, [], ◌∷◌, ◌⊎◌, inl, inr, arith}
use Rattle.std.proofs.lemmas.List.Elements.{Contains-append_cases, Contains-append_left, Contains-append_right, Contains-push, Contains-push_cases}
use Rattle.std.specs.List.{Contains}

pub none_in : {X : Type 0} (x : X) → Contains [] x → ⊥
none_in x (k, less, is) = absurd (omega (arith, less))

pub first_in : {X : Type 0} (x : X) (xs : List X) → Contains (x ∷ xs) x
first_in x xs = Contains-append_left (x ∷ []) xs x (Contains-push [] x)

pub rest_in : {X : Type 0} (x y : X) (xs : List X) → Contains xs y → Contains (x ∷ xs) y
rest_in x y xs inside = Contains-append_right (x ∷ []) xs y inside

pub in_cases : {X : Type 0} (x y : X) (xs : List X) → Contains (x ∷ xs) y → (x ≡ y) ⊎ Contains xs y
in_cases x y xs inside = by (Contains-append_cases (x ∷ []) xs y inside)
  where
    by : Contains (x ∷ []) y ⊎ Contains xs y → (x ≡ y) ⊎ Contains xs y
    by (inr rest) = inr rest
    by (inl first) = one (Contains-push_cases [] x y first)
      where
        one : Contains [] y ⊎ (x ≡ y) → (x ≡ y) ⊎ Contains xs y
        one (inl none) = absurd (none_in y none)
        one (inr same) = inl same
