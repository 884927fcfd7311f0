-- What holds of all elements of a list, and of those that are left of it.
use Rattle.std.proofs.Common.{◌≡◌, ◌<◌, List, [], ◌∷◌, ◌⊎◌, inl, inr, ap, arith, sym, subst}
use Rattle.std.specs.Prelude.{Contains}
use Rattle.bx_tree_files.specs.declared.file.File.{File}
use Rattle.bx_tree_laws.proofs.Counts.{contained_cases, contains_first, contains_later, none_contained}
use Rattle.bx_tree_laws.proofs.Rises.{Rise, rise_head, rise_tail}

pub contains_same : {X : Type 0} (xs ys : List X) (x : X) → xs ≡ ys → Contains xs x → Contains ys x
contains_same xs ys x same there = subst (λ (list : List _). Contains list x) same there

pub rest_there : {X : Type 0} (xs rest : List X) (x y : X) → xs ≡ x ∷ rest → Contains rest y → Contains xs y
rest_there xs rest x y is there = contains_same (x ∷ rest) xs y (sym is) (contains_later x y rest there)

pub front_there : {X : Type 0} (xs rest : List X) (x : X) → xs ≡ x ∷ rest → Contains xs x
front_there xs rest x is = contains_same (x ∷ rest) xs x (sym is) (contains_first x rest)

pub front_or_rest : {X : Type 0} (xs rest : List X) (x y : X) → xs ≡ x ∷ rest → Contains xs y → (x ≡ y) ⊎ Contains rest y
front_or_rest xs rest x y is there = contained_cases x y rest (contains_same xs (x ∷ rest) y is there)

pub none_there : {X : Type 0} (xs : List X) (x : X) → xs ≡ [] → Contains xs x → ⊥
none_there xs x is there = none_contained x (contains_same xs [] x is there)

module _ {X : Type 0} (P : X → Type 0) where
  pub all_there : (xs rest : List X) (x : X) → xs ≡ x ∷ rest → P x → ((y : X) → Contains rest y → P y) → (y : X) → Contains xs y → P y
  all_there xs rest x is holds later y there = by (front_or_rest xs rest x y is there)
    where
      by : (x ≡ y) ⊎ Contains rest y → P y
      by (inl same) = subst P same holds
      by (inr more) = later y more

-- of files that rise, those that are left do too
pub later_rise : (xs rest : List File) (x : File) → xs ≡ x ∷ rest → Rise xs → Rise rest
later_rise xs rest x is rise = rise_tail x rest (subst Rise is rise)

-- and none of them is below the first
pub later_above : (xs rest : List File) (x earlier : File) → xs ≡ x ∷ rest → Rise xs → Contains xs earlier → earlier.handle < x.handle → ⊥
later_above xs rest x earlier is rise there below = by (front_or_rest xs rest x earlier is there)
  where
    by : (x ≡ earlier) ⊎ Contains rest earlier → ⊥
    by (inl same) = let e : x.handle ≡ earlier.handle = ap (λ (f : File). f.handle) same in omega (arith, e, below)
    by (inr (k, less, later)) =
        let above : x.handle < earlier.handle = subst (λ (f : File). x.handle < f.handle) later (rise_head x rest (subst Rise is rise) k earlier less) in
        omega (arith, above, below)
