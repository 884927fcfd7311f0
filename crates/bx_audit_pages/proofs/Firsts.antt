-- The first entry of a page, and entries by their places.
use Rattle.std.proofs.Common.{◌≡◌, ℕ, zero, suc, ◌<◌, arith, List, [], ◌∷◌, length, refl, sym, ◌∙◌, subst, Some, None, Option}
use Rattle.std.specs.Prelude.{All, slice_get, IfSome}
use Rattle.std.specs.Int.{w64, from_be_bytes}
use Rattle.bx_page.specs.declared.entry.Entry.{Entry}
use Rattle.bx_truth.specs.PageTrees.{Node}
use Rattle.bx_audit_pages.specs.Trees.{HasFirst, NamesFirst}

some_same : {X : Type 0} (x y : X) → Some x ≡ Some y → x ≡ y
some_same x y e = cc

pub has_first : (entries : List Entry) (entry : Entry) (handle : ℕ) → Some entry ≡ slice_get entries 0 → length entry.value ≡ 8 → from_be_bytes w64 entry.value ≡ handle → HasFirst entries handle
has_first [] entry handle is eight value = absurd cc
has_first (x ∷ xs) entry handle is eight value =
    record { entry = entry; others = xs; parts = (λ i. some_same x entry (sym is) i ∷ xs); eight = eight; handle_is = value }

pub if_first : (entries : List Entry) (entry : Entry) (found : Option ℕ) → Some entry ≡ slice_get entries 0 → IfSome found (λ handle. (length entry.value ≡ 8) × (from_be_bytes w64 entry.value ≡ handle))
    → IfSome found (HasFirst entries)
if_first entries entry None is values = tt
if_first entries entry (Some handle) is values = has_first entries entry handle is values.0 values.1

pub all_gets : (P : Entry → Type 0) (entries : List Entry) → ((k : ℕ) (entry : Entry) → k < length entries → slice_get entries k ≡ Some entry → P entry) → All P entries
all_gets P [] each k d less = absurd (omega (arith, less))
all_gets P (x ∷ xs) each zero d less = each 0 x less refl
all_gets P (x ∷ xs) each (suc k) d less = all_gets P xs (λ n entry within is. each (suc n) entry (omega (arith, within)) is) k d (omega (arith, less))

pub gets_all : (P : Entry → Type 0) (entries : List Entry) → All P entries → (k : ℕ) (entry : Entry) → slice_get entries k ≡ Some entry → P entry
gets_all P [] all k entry is = absurd cc
gets_all P (x ∷ xs) all zero entry is = subst P (some_same x entry is) (all 0 x (omega arith))
gets_all P (x ∷ xs) all (suc k) entry is = gets_all P xs (λ n d less. all (suc n) d (omega (arith, less))) k entry is

pub first_named : (above : List Node) (page : Node) (handle : ℕ) → Some page ≡ slice_get above 0 → NamesFirst above handle → HasFirst page.page.entries handle
first_named [] page handle is names = absurd cc
first_named (x ∷ xs) page handle is names =
    let same : page ≡ x = some_same page x is in
    subst (λ (n : Node). HasFirst n.page.entries handle) (sym (same ∙ ap_head x xs names.head names.rest names.parts)) names.first
  where
    ap_head : (x : Node) (xs : List Node) (y : Node) (ys : List Node) → x ∷ xs ≡ y ∷ ys → x ≡ y
    ap_head x xs y ys e = cc
