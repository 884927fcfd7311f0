-- What a list has, by its front and its rest.
use Rattle.std.proofs.Common.{◌≡◌, ◌⊎◌, inl, inr, ⊎_elim, List, [], ◌∷◌, Contains, arith}
use Rattle.std.proofs.lemmas.List.Elements.{Contains-append_cases, Contains-append_left, Contains-append_right, Contains-push, Contains-push_cases}

pub nothing : {A : Type 0} (x : A) → Contains [] x → ⊥
nothing x (i, inside, is) = absurd (omega (arith, inside))

pub front : {A : Type 0} (x : A) (rest : List A) → Contains (x ∷ rest) x
front x rest = Contains-append_left (x ∷ []) rest x (Contains-push [] x)

pub behind : {A : Type 0} (one : A) (rest : List A) (x : A) → Contains rest x → Contains (one ∷ rest) x
behind one rest x has = Contains-append_right (one ∷ []) rest x has

pub front_or_behind : {A : Type 0} (one : A) (rest : List A) (x : A) → Contains (one ∷ rest) x → (one ≡ x) ⊎ Contains rest x
front_or_behind one rest x has = ⊎_elim (λ alone. ⊎_elim (λ none. absurd (nothing x none)) (λ is. inl is) (Contains-push_cases [] one x alone)) (λ more. inr more) (Contains-append_cases (one ∷ []) rest x has)
