-- Blocks in order of their numbers, the same of each number, are the same.
use Rattle.std.proofs.Common.{◌≡◌, ◌∙◌, ◌⊎◌, ⊎_elim, inl, inr, ℕ, Bool, true, false, List, [], ◌∷◌, Some, None, refl, sym, ap, subst}
use Rattle.std.specs.BTreeMap.{is_at}
use Rattle.std.specs.Cmp.{eq_by_cmp_equiv, nat_cmp_total, tied_itself}
use Rattle.std.specs.List.Sorted.{IsStrictlySortedBy}
use Rattle.std.specs.Map.{keys_of}
use Rattle.std.specs.Ordering.{is_eq, nat_cmp, ordering_reverse}
use Rattle.std.specs.declared.cmp.Ordering.{Ordering}
use Rattle.std.specs.declared.cmp.Ordering.TheVariants.{Less, Equal, Greater}
use Rattle.std.proofs.lemmas.Map.{lookup-none}
use Rattle.std.proofs.lemmas.Map.Entries.{lookup_head, lookup_tail, none_below_head, none_past_head}
use Rattle.std.proofs.lemmas.Map.Keys.{IsDistinct-from_sorted, sorted_tail}
use Rattle.std.proofs.lemmas.Map.Lookups.{exact_unsigned}
use Rattle.bx_layout.specs.declared.block.Block.{Block}
use Rattle.bx_records.specs.Drafts.{Changed}
use Rattle.bx_recover.specs.HomesOf.{numbered_in}

abbrev InOrder : List Changed → Type 0
InOrder blocks = IsStrictlySortedBy nat_cmp (keys_of blocks)

some_none : (block : Block) → Some block ≡ None → ⊥
some_none block e = cc

some_same : (a b : Block) → Some a ≡ Some b → a ≡ b
some_same a b e = cc

at_first : (first : Changed) (behind : List Changed) → numbered_in (first ∷ behind) first.0 ≡ Some first.1
at_first first behind = lookup_head (is_at (nat_cmp first.0)) first behind (ap is_eq (tied_itself nat_cmp_total first.0))

none_below : (number : ℕ) (first : Changed) (behind : List Changed) → InOrder (first ∷ behind) → nat_cmp number first.0 ≡ Less → numbered_in (first ∷ behind) number ≡ None
none_below number first behind order less = lookup-none (is_at (nat_cmp number)) (first ∷ behind) (none_below_head nat_cmp_total number first behind order less)

none_behind : (first : Changed) (behind : List Changed) → InOrder (first ∷ behind) → numbered_in behind first.0 ≡ None
none_behind first behind order =
    lookup-none (is_at (nat_cmp first.0)) behind
    (none_past_head (eq_by_cmp_equiv nat_cmp_total) first.0 first behind (IsDistinct-from_sorted nat_cmp (keys_of (first ∷ behind)) order) (ap is_eq (tied_itself nat_cmp_total first.0)))

same_first : (a b : ℕ) → a ≡ b → is_at (nat_cmp a) b ≡ true
same_first a b same = subst (λ (n : ℕ). is_at (nat_cmp a) n ≡ true) same (ap is_eq (tied_itself nat_cmp_total a))

either : (b : Bool) → (b ≡ true) ⊎ (b ≡ false)
either true = inl refl
either false = inr refl

number_at : (a b : ℕ) → is_at (nat_cmp a) b ≡ true → a ≡ b
number_at a b = by (nat_cmp a b) refl
  where
    by : (r : Ordering) → nat_cmp a b ≡ r → is_eq r ≡ true → a ≡ b
    by Less is test = absurd cc
    by Equal is test = exact_unsigned a b is
    by Greater is test = absurd cc

module _ (x y : Changed) (xs ys : List Changed) (order : InOrder (x ∷ xs)) (order_too : InOrder (y ∷ ys)) (same : (at : ℕ) → numbered_in (x ∷ xs) at ≡ numbered_in (y ∷ ys) at) where
  numbers : x.0 ≡ y.0
  numbers = by (nat_cmp x.0 y.0) refl
    where
      by : (r : Ordering) → nat_cmp x.0 y.0 ≡ r → x.0 ≡ y.0
      by Less is = absurd (some_none x.1 (sym (at_first x xs) ∙ same x.0 ∙ none_below x.0 y ys order_too is))
      by Equal is = exact_unsigned x.0 y.0 is
      by Greater is = absurd (some_none y.1 (sym (at_first y ys) ∙ sym (same y.0) ∙ none_below y.0 x xs order (nat_cmp_total.antisymm y.0 x.0 ∙ ap ordering_reverse is)))

  firsts : x.1 ≡ y.1
  firsts = some_same x.1 y.1 (sym (at_first x xs) ∙ same x.0 ∙ lookup_head (is_at (nat_cmp x.0)) y ys (same_first x.0 y.0 numbers))

  behinds : (at : ℕ) → numbered_in xs at ≡ numbered_in ys at
  behinds at = ⊎_elim here there (either (is_at (nat_cmp at) x.0))
    where
      here : is_at (nat_cmp at) x.0 ≡ true → numbered_in xs at ≡ numbered_in ys at
      here is =
          let e = number_at at x.0 is in
          ap (numbered_in xs) e ∙ none_behind x xs order ∙ sym (ap (numbered_in ys) (e ∙ numbers) ∙ none_behind y ys order_too)

      there : is_at (nat_cmp at) x.0 ≡ false → numbered_in xs at ≡ numbered_in ys at
      there is =
          sym (lookup_tail (is_at (nat_cmp at)) x xs is) ∙ same at
          ∙ lookup_tail (is_at (nat_cmp at)) y ys (subst (λ (n : ℕ). is_at (nat_cmp at) n ≡ false) numbers is)

pub same_blocks : (a b : List Changed) → InOrder a → InOrder b → ((at : ℕ) → numbered_in a at ≡ numbered_in b at) → a ≡ b
same_blocks [] [] order order_too same = refl
same_blocks [] (y ∷ ys) order order_too same = absurd (some_none y.1 (sym (at_first y ys) ∙ sym (same y.0)))
same_blocks (x ∷ xs) [] order order_too same = absurd (some_none x.1 (sym (at_first x xs) ∙ same x.0))
same_blocks (x ∷ xs) (y ∷ ys) order order_too same =
    let rest = same_blocks xs ys (sorted_tail nat_cmp x.0 (keys_of xs) order) (sorted_tail nat_cmp y.0 (keys_of ys) order_too) (behinds x y xs ys order order_too same) in
    λ i. (numbers x y xs ys order order_too same i, firsts x y xs ys order order_too same i) ∷ rest i
