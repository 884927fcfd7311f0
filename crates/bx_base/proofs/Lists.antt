-- Reading parts one after the other, as a loop does.
use Rattle.std.proofs.Common.{◌≡◌, ℕ, suc, ◌-◌, ◌+◌, ◌≤◌, ◌<◌, List, [], ◌∷◌, ◌++◌, Option, Some, None, refl, sym, ap, ◌∙◌, append_assoc, arith}
use Rattle.std.proofs.lemmas.List.{append-nil}
use Rattle.bx_base.specs.declared.error.ReadError.{ReadError}
use Rattle.bx_base.specs.declared.error.ReadError.TheVariants as errors
use Rattle.bx_base.specs.Reading.{◌>>=◌, Fails, Reader, list_at}

-- what was read before, and what is still read
abbrev pub with_front : {A : Type 0} → List A → Option (List A × List ℕ) → Option (List A × List ℕ)
with_front front read = read >>= λ x. Some (front ++ x.0, x.1)

module _ {A : Type 0} (a : Reader A) (front : List A) (count i : ℕ) (bytes : List ℕ) where
  regroup : (first : A) (read : Option (List A × List ℕ)) → with_front front (read >>= λ x. Some (first ∷ x.0, x.1)) ≡ with_front (front ++ first ∷ []) read
  regroup first (Some x) = ap (λ (xs : List A). Some (xs, x.1)) (simp append_assoc)
  regroup first None = refl

  pub goes_on : (first : A) (after : List ℕ) (total : Option (List A × List ℕ)) → i < count → a bytes ≡ Some (first, after)
      → with_front front (list_at (count - i) a bytes) ≡ total → with_front (front ++ first ∷ []) (list_at (count - (i + 1)) a after) ≡ total
  unfolding list_at
  goes_on first after total lt h so_far =
      let k : count - i ≡ suc (count - (i + 1)) = omega arith in
      let one : with_front front (list_at (count - i) a bytes) ≡ with_front (front ++ first ∷ []) (list_at (count - (i + 1)) a after) = rw (k, h) (regroup first (list_at (count - (i + 1)) a after)) in
      sym one ∙ so_far

  pub ends : (error : ReadError) (total : Option (List A × List ℕ)) → i < count → Fails error (a bytes)
      → with_front front (list_at (count - i) a bytes) ≡ total → Fails error total
  unfolding list_at
  ends errors.OutOfMemory total lt h so_far = tt
  ends errors.Malformed total lt h so_far =
      let k : count - i ≡ suc (count - (i + 1)) = omega arith in
      let one : with_front front (list_at (count - i) a bytes) ≡ None = rw (k, h) refl in
      sym so_far ∙ one

  pub is_done : (total : Option (List A × List ℕ)) → count ≤ i → with_front front (list_at (count - i) a bytes) ≡ total → total ≡ Some (front, bytes)
  unfolding list_at
  is_done total le so_far =
      let k : count - i ≡ 0 = omega arith in
      let one : with_front front (list_at (count - i) a bytes) ≡ Some (front, bytes) = rw k (ap (λ (xs : List A). Some (xs, bytes)) (append-nil front)) in
      sym so_far ∙ one
