-- What a node keeps where it does something about blocks that it wants.
use Rattle.std.proofs.Common.{◌≡◌, ◌≢◌, ◌⊎◌, ⊎_elim, inl, inr, ◌∙◌, ℕ, Bool, true, false, eqb, List, [], ◌∷◌, Contains, Option, Some, None, IfSome, refl, sym, subst, arith}
use Rattle.std.specs.Prelude.{OnOk, Result}
use Rattle.std.specs.List.{AllByRecursion}
use Rattle.std.proofs.lemmas.Bool.Decides.{nat_tests}
use Rattle.bx_base.specs.declared.names.Mode.{Mode}
use Rattle.bx_facts.proofs.Lists.{behind, front}
use Rattle.bx_node_cache.specs.Kept.{kept_in}
use Rattle.bx_nodes.specs.Asks.{KeepsUnneeded, KeepsUnwanted}
use Rattle.bx_node_steps.specs.declared.machine.Machine.{Machine}
use Rattle.bx_nodes.proofs.Machines.{both_ok, ok_so}

pub unwanted_none : (found : Option Machine) (wants : List (ℕ × Mode)) → IfSome found (λ old. IfSome found (KeepsUnwanted wants old))
unwanted_none None wants = tt
unwanted_none (Some machine) wants = λ at. inl refl

pub unwanted_more : (wanted : ℕ × Mode) (rest : List (ℕ × Mode)) (old middle new : Option Machine) → (middle ≡ None → ⊥)
    → IfSome old (λ a. IfSome middle (λ b. (at : ℕ) → at ≢ wanted.0 → kept_in b.cache.kept at ≡ kept_in a.cache.kept at))
    → IfSome middle (λ a. IfSome new (KeepsUnwanted rest a)) → IfSome old (λ a. IfSome new (KeepsUnwanted (wanted ∷ rest) a))
unwanted_more wanted rest None middle new some one keeps = tt
unwanted_more wanted rest (Some old) None new some one keeps = absurd (some refl)
unwanted_more wanted rest (Some old) (Some middle) None some one keeps = tt
unwanted_more wanted rest (Some old) (Some middle) (Some new) some one keeps = λ at. by at (eqb at wanted.0) refl
  where
    by : (at : ℕ) (b : Bool) → eqb at wanted.0 ≡ b → (kept_in new.cache.kept at ≡ kept_in old.cache.kept at) ⊎ ((mode : Mode) × Contains (wanted ∷ rest) (at, mode))
    by at true is =
        let e : at ≡ wanted.0 = grind (arith, nat_tests, is) in
        inr (wanted.1, subst (λ (n : ℕ). Contains (wanted ∷ rest) (n, wanted.1)) (sym e) (front wanted rest))
    by at false is = ⊎_elim
        (λ still. inl (still ∙ one at (λ e. grind (arith, nat_tests, is, e))))
        (λ among. inr (among.0, behind wanted rest (at, among.0) among.1))
        (keeps at)

pub unneeded_none : (found : Option Machine) (needs : List (List (ℕ × Mode))) → IfSome found (λ old. IfSome found (KeepsUnneeded needs old))
unneeded_none None needs = tt
unneeded_none (Some machine) needs = λ at. inl refl

pub unneeded_more : (wants : List (ℕ × Mode)) (rest : List (List (ℕ × Mode))) (old middle new : Option Machine) → (middle ≡ None → ⊥)
    → IfSome old (λ a. IfSome middle (KeepsUnwanted wants a)) → IfSome middle (λ a. IfSome new (KeepsUnneeded rest a)) → IfSome old (λ a. IfSome new (KeepsUnneeded (wants ∷ rest) a))
unneeded_more wants rest None middle new some one keeps = tt
unneeded_more wants rest (Some old) None new some one keeps = absurd (some refl)
unneeded_more wants rest (Some old) (Some middle) None some one keeps = tt
unneeded_more wants rest (Some old) (Some middle) (Some new) some one keeps = λ at. ⊎_elim
    (λ still. ⊎_elim (λ was. inl (still ∙ was)) (λ among. inr (wants, front wants rest, among)) (one at))
    (λ among. inr (among.0, behind wants rest among.0 among.1, among.2))
    (keeps at)

-- What stands about each of these blocks stands, whatever is asked for behind them.
pub still_asking : {T E : Type 0} (Asked Asks : ℕ → Type 0) (wants : List (ℕ × Mode)) (r : Result T E) → ((at : ℕ) → Asked at → OnOk r (Asks at)) → AllByRecursion (λ wanted. Asked wanted.0) wants → OnOk r (AllByRecursion (λ wanted. Asks wanted.0) wants)
still_asking Asked Asks [] r stays all = ok_so _ r tt
still_asking Asked Asks (wanted ∷ rest) r stays all = both_ok _ _ r (stays wanted.0 all.0) (still_asking Asked Asks rest r stays all.1)
