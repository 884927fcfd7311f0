-- Entries one by one, and pages one by one.
use Rattle.std.proofs.Common.{◌≡◌, ℕ, zero, suc, ◌+◌, ◌<◌, arith, List, [], ◌∷◌, ◌++◌, length, take, drop, get_or, refl, sym, ap, ◌∙◌, Some, None}
use Rattle.std.specs.Prelude.{All, slice_get}
use Rattle.std.proofs.lemmas.Grind.{flat_map-append}
use Rattle.std.proofs.lemmas.List.{append-nil, take_more}
use Rattle.std.proofs.lemmas.List.Elements.{All-cons}
use Rattle.bx_page.specs.declared.entry.Entry.{Entry}
use Rattle.bx_truth.specs.PageTrees.{Node, entries_of}

-- the entry at a place
pub one_there : (entries : List Entry) (at : ℕ) (entry : Entry) → Some entry ≡ slice_get entries at → take 1 (drop at entries) ≡ entry ∷ []
one_there [] at entry is = absurd cc
one_there (x ∷ xs) zero entry is = let same : entry ≡ x = cc in λ i. (sym same) i ∷ []
one_there (x ∷ xs) (suc at) entry is = one_there xs at entry is

pub none_there : (entries : List Entry) (at : ℕ) → None ≡ slice_get entries at → take 1 (drop at entries) ≡ []
none_there [] zero is = refl
none_there [] (suc at) is = refl
none_there (x ∷ xs) zero is = absurd cc
none_there (x ∷ xs) (suc at) is = none_there xs at is

up : (entries : List Entry) (at : ℕ) → take (suc at) entries ≡ take at entries ++ take 1 (drop at entries)
up [] zero = refl
up [] (suc at) = refl
up (x ∷ xs) zero = refl
up (x ∷ xs) (suc at) = λ i. x ∷ up xs at i

pub one_more : (entries : List Entry) (at : ℕ) → take (at + 1) entries ≡ take at entries ++ take 1 (drop at entries)
one_more entries at = ap (λ (n : ℕ). take n entries) (one_up at) ∙ up entries at
  where
    one_up : (n : ℕ) → n + 1 ≡ suc n
    one_up n = omega arith

pub all_there : (P : Entry → Type 0) (entries : List Entry) (at : ℕ) → All P entries → All P (take 1 (drop at entries))
all_there P [] zero all = all
all_there P [] (suc at) all = all
all_there P (x ∷ xs) zero all = λ k d less. one k d less
  where
    one : (k : ℕ) (d : Entry) → k < length (x ∷ []) → P (get_or (x ∷ []) k d)
    one zero d less = all 0 d (omega arith)
    one (suc k) d less = absurd (omega (arith, less))
all_there P (x ∷ xs) (suc at) all = all_there P xs at (λ k d less. all (suc k) d (omega (arith, less)))

pub all_one : (P : Entry → Type 0) (entry : Entry) → P entry → All P (entry ∷ [])
all_one P entry is = All-cons P entry [] is (λ k d less. absurd (omega (arith, less)))

pub one_of_all : (P : Entry → Type 0) (entry : Entry) → All P (entry ∷ []) → P entry
one_of_all P entry all = all 0 entry (omega arith)

-- ---- pages one by one

pub leaf_more : (nodes : List Node) (at : ℕ) (node : Node) → at < length nodes → node ≡ get_or nodes at node → entries_of (take (at + 1) nodes) ≡ entries_of (take at nodes) ++ node.page.entries
leaf_more nodes at node less is =
    ap entries_of (take_more nodes at node less ∙ (λ i. take at nodes ++ (sym is) i ∷ []))
    ∙ flat_map-append (λ (n : Node). n.page.entries) (take at nodes) (node ∷ [])
    ∙ ap (λ (l : List Entry). entries_of (take at nodes) ++ l) (append-nil node.page.entries)

left_all : (P : Entry → Type 0) (xs ys : List Entry) → All P (xs ++ ys) → All P xs
left_all P [] ys all = λ k d less. absurd (omega (arith, less))
left_all P (x ∷ xs) ys all = All-cons P x xs (all 0 x (omega arith)) (left_all P xs ys (λ k d less. all (suc k) d (omega (arith, less))))

right_all : (P : Entry → Type 0) (xs ys : List Entry) → All P (xs ++ ys) → All P ys
right_all P [] ys all = all
right_all P (x ∷ xs) ys all = right_all P xs ys (λ k d less. all (suc k) d (omega (arith, less)))

pub leaf_of_all : (P : Entry → Type 0) (nodes : List Node) (at : ℕ) (d : Node) → at < length nodes → All P (entries_of nodes) → All P (get_or nodes at d).page.entries
leaf_of_all P [] at d less all = absurd (omega (arith, less))
leaf_of_all P (x ∷ xs) zero d less all = left_all P x.page.entries (entries_of xs) all
leaf_of_all P (x ∷ xs) (suc at) d less all = leaf_of_all P xs at d (omega (arith, less)) (right_all P x.page.entries (entries_of xs) all)
