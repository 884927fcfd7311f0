-- What a list has for each node.
use Rattle.std.proofs.Common.{◌≡◌, ℕ, zero, suc, ◌+◌, ◌<◌, ◌≤◌, Bool, List, [], ◌∷◌, ◌++◌, true, false, eqb, Option, Some, None, length, refl, sym, ◌∙◌, ap, arith}
use Rattle.std.specs.Prelude.{◌==◌, IsSome, slice_index_or}
use Rattle.std.specs.Option.{option_eq}
use Rattle.std.proofs.lemmas.Bool.Decides.{nat_tests}
use Rattle.std.proofs.lemmas.List.{length_push}
use Rattle.bx_global.specs.declared.state.GlobalState.{GlobalState}
use Rattle.bx_facts.specs.Chains.{any_session_of}
use Rattle.bx_plain_store.specs.Out.{at}
use Rattle.bx_plain_store.specs.Fits.{HasSessionsOf}

-- what is read at a place
pub at_read : {X : Type 0} → (xs : List (Option X)) (i : ℕ) (d : Option X) → i < length xs → slice_index_or xs i d ≡ at xs i
at_read [] i d less = absurd (omega (arith, less))
at_read (x ∷ xs) zero d less = refl
at_read (x ∷ xs) (suc i) d less = at_read xs i d (omega (arith, less))

-- nothing stands past the end
pub at_past : {X : Type 0} → (xs : List (Option X)) (i : ℕ) → length xs ≤ i → at xs i ≡ None
at_past [] i past = refl
at_past (x ∷ xs) zero past = absurd (omega (arith, past))
at_past (x ∷ xs) (suc i) past = at_past xs i (omega (arith, past))

-- a place that has something lies within the list
pub some_within : {X : Type 0} → (xs : List (Option X)) (node : ℕ) → IsSome (at xs node) → node < length xs
some_within [] node is = absurd cc
some_within (y ∷ xs) zero is = omega arith
some_within (y ∷ xs) (suc node) is = let less = some_within xs node is in omega (arith, less)

-- one place more that has nothing
pub none_pushed : {X : Type 0} → (xs : List (Option X)) → ((node : ℕ) → at xs node ≡ None) → (node : ℕ) → at (xs ++ None ∷ []) node ≡ None
none_pushed [] none zero = refl
none_pushed [] none (suc node) = refl
none_pushed (x ∷ xs) none zero = none 0
none_pushed (x ∷ xs) none (suc node) = none_pushed xs (λ n. none (suc n)) node

-- what the test of two sessions tells
pub option_same : (o p : Option ℕ) → option_eq eqb o p ≡ true → o ≡ p
option_same None None is = refl
option_same None (Some m) is = absurd cc
option_same (Some n) None is = absurd cc
option_same (Some n) (Some m) is = let e : n ≡ m = grind (arith, nat_tests, is) in ap Some e

pub option_apart : (o p : Option ℕ) → option_eq eqb o p ≡ false → o ≡ p → ⊥
option_apart None None is same = absurd cc
option_apart None (Some m) is same = absurd cc
option_apart (Some n) None is same = absurd cc
option_apart (Some n) (Some m) is same = let e : n ≡ m = (let h = same in cc) in let t : eqb n m ≡ true = grind (arith, nat_tests, e) in absurd (let h = is in cc)

-- the sessions of one node more
pub sessions_pushed : (s : GlobalState) (nodes : ℕ) (owns : List (Option ℕ)) (own : Option ℕ) → HasSessionsOf s nodes owns → own ≡ any_session_of s nodes → HasSessionsOf s (nodes + 1) (owns ++ own ∷ [])
sessions_pushed s nodes owns own has is = record {
  long = (let long = has.long in let more = length_push owns own in omega (arith, long, more));
  each = λ node less. by_test node less (node == nodes) refl;
}
  where
    at_pushed : {X : Type 0} (xs : List (Option X)) (x : Option X) (n : ℕ) → n ≡ length xs → at (xs ++ x ∷ []) n ≡ x
    at_pushed [] x zero is = refl
    at_pushed [] x (suc n) is = absurd cc
    at_pushed (y ∷ xs) x zero is = absurd cc
    at_pushed (y ∷ xs) x (suc n) is = at_pushed xs x n (omega (arith, is))

    at_before : {X : Type 0} (xs : List (Option X)) (x : Option X) (n : ℕ) → n < length xs → at (xs ++ x ∷ []) n ≡ at xs n
    at_before [] x n less = absurd (omega (arith, less))
    at_before (y ∷ xs) x zero less = refl
    at_before (y ∷ xs) x (suc n) less = at_before xs x n (omega (arith, less))

    by_test : (node : ℕ) → node < nodes + 1 → (b : Bool) → (node == nodes) ≡ b → at (owns ++ own ∷ []) node ≡ any_session_of s node
    by_test node less true same =
        let e : node ≡ nodes = grind (arith, nat_tests, same) in
        let long = has.long in
        at_pushed owns own node (omega (arith, e, long)) ∙ is ∙ ap (any_session_of s) (sym e)
    by_test node less false apart =
        let before : node < nodes = grind (arith, nat_tests, apart, less) in
        let long = has.long in
        at_before owns own node (omega (arith, before, long)) ∙ has.each node before
