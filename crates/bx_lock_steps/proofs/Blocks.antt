-- What a map by block has, once something is put.
use Rattle.std.proofs.Common.{◌≡◌, ⊎_elim, ℕ, true, List, [], ◌∷◌, Some, refl, sym, ◌∙◌, arith}
use Rattle.std.specs.Prelude.{nat_eq, ◌==◌}
use Rattle.std.specs.Map.{lookup}
use Rattle.std.proofs.lemmas.Bool.Decides.{eqb_tells, nat_tests}
use Rattle.indexmap.specs.IndexMap.{insert_entry}

pub put_here : {A : Type 0} (items : List (ℕ × A)) (b : ℕ) (value : A) → lookup (nat_eq b) (insert_entry nat_eq items b value) ≡ Some value
put_here {A} [] b value = let e : (b == b) ≡ true = grind (arith, nat_tests) in rw e refl
put_here {A} (item ∷ rest) b value = ⊎_elim
    (λ same. rw same.0 (rw same.0 refl))
    (λ other. rw other.0 (rw other.0 (put_here rest b value)))
    (eqb_tells b item.0)

pub put_elsewhere : {A : Type 0} (items : List (ℕ × A)) (b c : ℕ) (value : A) → (c ≡ b → ⊥) → lookup (nat_eq c) (insert_entry nat_eq items b value) ≡ lookup (nat_eq c) items
put_elsewhere {A} [] b c value differ = ⊎_elim (λ same. absurd (differ same.1)) (λ other. rw other.0 refl) (eqb_tells c b)
put_elsewhere {A} (item ∷ rest) b c value differ = ⊎_elim
    (λ same. ⊎_elim
    (λ here. absurd (differ (here.1 ∙ sym same.1)))
    (λ not_here. rw same.0 (rw not_here.0 refl))
    (eqb_tells c item.0))
    (λ other. ⊎_elim
    (λ here. rw other.0 (rw here.0 refl))
    (λ not_here. rw other.0 (rw not_here.0 (put_elsewhere rest b c value differ)))
    (eqb_tells c item.0))
    (eqb_tells b item.0)
