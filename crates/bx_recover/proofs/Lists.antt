-- Items of lists, place by place.
use Rattle.std.proofs.Common.{◌≡◌, ◌⊎◌, ⊎_elim, inl, inr, ℕ, zero, suc, ◌<◌, arith, List, [], ◌∷◌, ◌++◌, length, Some, refl, ap}
use Rattle.std.specs.Prelude.{slice_get}

module _ {X : Type 0} where
  -- what stands there once an item is put at the end
  pub split_last : (xs : List X) (last : X) (place : ℕ) (x : X) → slice_get (xs ++ last ∷ []) place ≡ Some x → (slice_get xs place ≡ Some x) ⊎ ((place ≡ length xs) × (last ≡ x))
  split_last [] last zero x there = inr (refl, cc)
  split_last [] last (suc place) x there = absurd cc
  split_last (first ∷ xs) last zero x there = inl there
  split_last (first ∷ xs) last (suc place) x there = ⊎_elim inl (λ end. inr (ap suc end.0, end.1)) (split_last xs last place x there)

  pub item_at : (xs : List X) (place : ℕ) → place < length xs → (x : X) × (slice_get xs place ≡ Some x)
  item_at [] place less = absurd (omega (arith, less))
  item_at (first ∷ xs) zero less = (first, refl)
  item_at (first ∷ xs) (suc place) less = item_at xs place (omega (arith, less))

  pub same_items : (xs ys : List X) → length xs ≡ length ys → ((place : ℕ) (x y : X) → slice_get xs place ≡ Some x → slice_get ys place ≡ Some y → x ≡ y) → xs ≡ ys
  same_items [] [] long same = refl
  same_items [] (y ∷ ys) long same = absurd (omega (arith, long))
  same_items (x ∷ xs) [] long same = absurd (omega (arith, long))
  same_items (x ∷ xs) (y ∷ ys) long same =
      let first = same 0 x y refl refl in
      let rest = same_items xs ys (omega (arith, long)) (λ place a b. same (suc place) a b) in
      λ i. first i ∷ rest i
