-- What a node keeps where it gives back what it is asked for.
use Rattle.std.proofs.Common.{◌≡◌, ◌⊎◌, ⊎_elim, inl, inr, ◌∙◌, ℕ, ◌<◌, Bool, true, false, eqb, List, [], ◌∷◌, Contains, Option, Some, None, IfSome, refl, sym, subst, arith}
use Rattle.std.specs.Prelude.{◌==◌, if◌then◌else◌, not}
use Rattle.std.proofs.lemmas.Bool.Decides.{nat_tests}
use Rattle.bx_facts.specs.Holds.{first_of, without_block}
use Rattle.bx_facts.proofs.Lists.{behind, front, front_or_behind, nothing}
use Rattle.bx_node_cache.specs.Kept.{kept_in}
use Rattle.bx_node_steps.specs.Changing.{LetsGo}
use Rattle.bx_node_steps.specs.Gives.{KeepsRest, MayGo, since, waits_since}
use Rattle.bx_node_steps.specs.declared.machine.Machine.{Machine}

-- nothing goes
pub keeps_all : (found : Option Machine) (session : ℕ) (asks : List (ℕ × ℕ)) → IfSome found (λ old. IfSome found (KeepsRest session asks old))
keeps_all None session asks = tt
keeps_all (Some machine) session asks = λ at. inl refl

-- what is left of a list was there
was_there : (block : ℕ) (asks : List (ℕ × ℕ)) (one : ℕ × ℕ) → Contains (without_block block asks) one → Contains asks one
was_there block [] one has = absurd (nothing one has)
was_there block (first ∷ rest) one has = by (was_there block rest one) (first.0 == block) has
  where
    by : (Contains (without_block block rest) one → Contains rest one) → (b : Bool) → Contains (if not b then first ∷ without_block block rest else without_block block rest) one → Contains (first ∷ rest) one
    by later true there = behind first rest one (later there)
    by later false there = ⊎_elim (λ is. subst (λ (x : ℕ × ℕ). Contains (first ∷ rest) x) is (front first rest)) (λ more. behind first rest one (later more)) (front_or_behind first (without_block block rest) one there)

first_there : (asks : List (ℕ × ℕ)) (one : ℕ × ℕ) → first_of asks ≡ Some one → Contains asks one
first_there [] one is = absurd cc
first_there (first ∷ rest) one is = let e : first ≡ one = cc in subst (λ (x : ℕ × ℕ). Contains (first ∷ rest) x) e (front first rest)

-- One block goes, and then those that may.
step : (session block asking : ℕ) (asks asks_then : List (ℕ × ℕ)) (old middle new : Machine) → first_of asks ≡ Some (block, asking) → asks_then ≡ without_block block asks → LetsGo block old middle
    → (asking < session) ⊎ (waits_since (since block asking old) old.calls.items ≡ false) → KeepsRest session asks_then middle new → KeepsRest session asks old new
step session block asking asks asks_then old middle new is left goes free rest at = by (eqb at block) refl
  where
    by : (b : Bool) → eqb at block ≡ b → (kept_in new.cache.kept at ≡ kept_in old.cache.kept at) ⊎ MayGo session asks old at
    by true same =
        let e : at ≡ block = grind (arith, nat_tests, same) in
        inr (subst (λ (n : ℕ). MayGo session asks old n) (sym e) (record { asking = asking; asked = first_there asks (block, asking) is; free = free }))
    by false differ = ⊎_elim
        (λ still. inl (still ∙ goes.kept.others at (λ e. grind (arith, nat_tests, differ, e))))
        (λ went. inr (record {
          asking = went.asking;
          asked = was_there block asks (at, went.asking) (subst (λ (l : List (ℕ × ℕ)). Contains l (at, went.asking)) left went.asked);
          free = subst (λ (m : Machine). (went.asking < session) ⊎ (waits_since (since at went.asking m) m.calls.items ≡ false)) goes.only went.free;
        }))
        (rest at)

pub steps : (session block asking : ℕ) (asks asks_then : List (ℕ × ℕ)) (old middle new : Option Machine) → (middle ≡ None → ⊥) → first_of asks ≡ Some (block, asking) → asks_then ≡ without_block block asks
    → IfSome old (λ a. IfSome middle (LetsGo block a)) → IfSome old (λ machine. (asking < session) ⊎ (waits_since (since block asking machine) machine.calls.items ≡ false))
    → IfSome middle (λ a. IfSome new (KeepsRest session asks_then a)) → IfSome old (λ a. IfSome new (KeepsRest session asks a))
steps session block asking asks asks_then None middle new some is left goes free rest = tt
steps session block asking asks asks_then (Some old) None new some is left goes free rest = absurd (some refl)
steps session block asking asks asks_then (Some old) (Some middle) None some is left goes free rest = tt
steps session block asking asks asks_then (Some old) (Some middle) (Some new) some is left goes free rest = step session block asking asks asks_then old middle new is left goes free rest
