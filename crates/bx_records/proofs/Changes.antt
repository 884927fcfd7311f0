-- Drafts: what putting a block changes.
use Rattle.std.proofs.Common.{◌≡◌, ℕ, suc, ◌<◌, true, false, cond, eqb, List, [], ◌∷◌, ◌++◌, length, set, Option, Some, None, refl, ap, subst, arith, eqb-true}
use Rattle.std.specs.Prelude.{option_map}
use Rattle.std.specs.List.{AllByRecursion, IsDistinct}
use Rattle.std.proofs.lemmas.List.{length-set, length-append}
use Rattle.bx_layout.specs.declared.block.Block.{Block}
use Rattle.bx_records.specs.Drafts.{Changed, block_in, with_block, place_in, same_number, IsDraft}

-- ---- a block is put

mapped : (o : Option ℕ) (p : ℕ) → option_map suc o ≡ Some p → (q : ℕ) × (o ≡ Some q) × (suc q ≡ p)
mapped None p e = absurd cc
mapped (Some q) p e = (q, refl, cc)

unmapped : (o : Option ℕ) → option_map suc o ≡ None → o ≡ None
unmapped None e = refl
unmapped (Some q) e = absurd cc

module _ (at : ℕ) (block : Block) where
  pub record ReplacesAt (xs : List Changed) (p : ℕ) : Type 0 where
    pub there : p < length xs
    pub put : with_block xs at block ≡ set xs p (at, block)
    pub found : block_in xs at ≡ None → ⊥

  pub put_there : (xs : List Changed) (p : ℕ) → place_in xs at ≡ Some p → ReplacesAt xs p
  put_there [] p e = absurd cc
  put_there (x ∷ xs) p e = (elim (eqb x.0 at) as (λ b. eqb x.0 at ≡ b → ReplacesAt (x ∷ xs) p) [
    | true ↦ λ t.
        let z : 0 ≡ p = let h = rw t at e in cc in
        subst (λ (n : ℕ). ReplacesAt (x ∷ xs) n) z (record { there = omega arith; put = rw t refl; found = rw t (λ none. absurd cc) })
    | false ↦ λ t.
        let q = mapped (place_in xs at) p (rw t at e) in
        let r = put_there xs q.0 q.1 in
        subst (λ (n : ℕ). ReplacesAt (x ∷ xs) n) q.2 (record { there = omega (arith, r.there); put = rw (t, r.put) refl; found = rw t r.found })
  ]) refl

  pub record PutsBehind (xs : List Changed) : Type 0 where
    pub put : with_block xs at block ≡ xs ++ (at, block) ∷ []
    pub missing : block_in xs at ≡ None

  pub put_behind : (xs : List Changed) → place_in xs at ≡ None → PutsBehind xs
  put_behind [] e = record { put = refl; missing = refl }
  put_behind (x ∷ xs) e = (elim (eqb x.0 at) as (λ b. eqb x.0 at ≡ b → PutsBehind (x ∷ xs)) [
    | true ↦ λ t. let h = rw t at e in absurd cc
    | false ↦ λ t.
        let r = put_behind xs (unmapped (place_in xs at) (rw t at e)) in
        record { put = rw (t, r.put) refl; missing = rw t r.missing }
  ]) refl

  others_with : (n : ℕ) (xs : List Changed) → eqb n at ≡ false → AllByRecursion (λ y. eqb n y.0 ≡ false) xs → AllByRecursion (λ y. eqb n y.0 ≡ false) (with_block xs at block)
  others_with n [] ne all = (ne, tt)
  others_with n (x ∷ xs) ne all =
      elim (eqb x.0 at) as (λ b. AllByRecursion (λ y. eqb n y.0 ≡ false) (cond b ((at, block) ∷ xs) (x ∷ with_block xs at block))) [
        | true ↦ (ne, all.1)
        | false ↦ (all.0, others_with n xs ne all.1)
      ]

  distinct_with : (xs : List Changed) → IsDistinct same_number xs → IsDistinct same_number (with_block xs at block)
  unfolding IsDistinct
  distinct_with [] apart = (tt, tt)
  distinct_with (x ∷ xs) apart =
      (elim (eqb x.0 at) as (λ b. eqb x.0 at ≡ b → IsDistinct same_number (cond b ((at, block) ∷ xs) (x ∷ with_block xs at block))) [
        | true ↦ λ t. (subst (λ (n : ℕ). AllByRecursion (λ y. eqb n y.0 ≡ false) xs) (eqb-true _ _ t) apart.0, apart.1)
        | false ↦ λ t. (others_with x.0 xs t apart.0, distinct_with xs apart.1)
      ]) refl

  pub draft_there : (xs : List Changed) (p : ℕ) → IsDraft xs → ReplacesAt xs p → IsDraft (set xs p (at, block))
  draft_there xs p is r = subst IsDraft r.put (record { most = omega (arith, is.most, ap length r.put, length-set xs p (at, block)); apart = distinct_with xs is.apart })

  pub draft_behind : (xs : List Changed) → IsDraft xs → length xs < 16 → PutsBehind xs → IsDraft (xs ++ (at, block) ∷ [])
  draft_behind xs is room r = subst IsDraft r.put (record { most = omega (arith, room, ap length r.put, length-append xs ((at, block) ∷ [])); apart = distinct_with xs is.apart })
