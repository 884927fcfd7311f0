-- There is one count of free slots.
use Rattle.std.proofs.Common.{◌≡◌, ℕ, zero, suc, ◌+◌, ◌<◌, ◌⊎◌, inl, inr, arith, Result, Ok, Err, sym, ap, subst, ◌∙◌}
use Rattle.std.specs.Prelude.{count_by}
use Rattle.bx_base.specs.declared.names.Mode.TheVariants.{Shared}
use Rattle.bx_layout.specs.declared.area.AreaBlock.{AreaBlock}
use Rattle.bx_layout.specs.declared.block.Block.{Block}
use Rattle.bx_layout.specs.Areas.{is_free}
use Rattle.bx_truth.specs.Chunks.{own_block}
use Rattle.bx_truth.specs.bx_views.specs.Truths.{Held}
use Rattle.bx_chunks.specs.Areas.{HasSlots}
use Rattle.bx_chunks.specs.Counting.{CountsAt, HasFreeCount, HoldsFree, LacksArea, Sums}
use Rattle.bx_chunks.specs.Memory.{HasMemory}
use Rattle.bx_chunks.specs.declared.error.ChunkError.{ChunkError}
use Rattle.bx_chunks.specs.declared.error.ChunkError.TheVariants.{Need, Stale, Full, OutOfMemory, Crowded}
use Rattle.bx_chunks.proofs.OneArea.{one_area}
use Rattle.bx_chunks.proofs.Options.{none_some, some_same}

-- one of two numbers is the lesser, or they are the same
pub in_order : (a b : ℕ) → (a < b) ⊎ ((b < a) ⊎ (a ≡ b))
in_order a b = grind arith

pub slots_same : (area : ℕ) (x y : Block) (s t : AreaBlock) → x ≡ y → HasSlots area s x → HasSlots area t y → s ≡ t
slots_same area x y s t e hs ht = one_area s t y.payload (subst (HasSlots area s) e hs).spells ht.spells

count_same : (area : ℕ) (x y : Block) (n m : ℕ) → x ≡ y → HasFreeCount area x n → HasFreeCount area y m → n ≡ m
count_same area x y n m e (inl a) (inl b) = a.2 ∙ ap (λ (s : AreaBlock). count_by is_free s.words) (slots_same area x y a.0 b.0 e a.1 b.1) ∙ sym b.2
count_same area x y n m e (inl a) (inr b) = absurd (b.0 a.0 (subst (HasSlots area a.0) e a.1))
count_same area x y n m e (inr a) (inl b) = absurd (a.0 b.0 (subst (HasSlots area b.0) (sym e) b.1))
count_same area x y n m e (inr a) (inr b) = a.1 ∙ sym b.1

pub free_same : (held : Held) (area n m : ℕ) → HoldsFree held area n → HoldsFree held area m → n ≡ m
free_same held area n m a b = count_same area a.block b.block n m (some_same (held (own_block area) Shared) a.block b.block a.there b.there) a.counts b.counts

pub sums_same : (Is : ℕ → ℕ → Type 0) → ((i n m : ℕ) → Is i n → Is i m → n ≡ m) → (n t u : ℕ) → Sums Is n t → Sums Is n u → t ≡ u
unfolding Sums
sums_same Is same zero t u a b = a ∙ sym b
sums_same Is same (suc n) t u a b =
    a.4 ∙ ap (λ (x : ℕ). x + a.1) (sums_same Is same n a.0 b.0 a.2 b.2) ∙ ap (λ (x : ℕ). b.0 + x) (same n a.1 b.1 a.3 b.3) ∙ sym b.4

sums_at : (Is : ℕ → ℕ → Type 0) (n total i : ℕ) → Sums Is n total → i < n → (last : ℕ) × Is i last
unfolding Sums
sums_at Is zero total i sums less = absurd (omega (arith, less))
sums_at Is (suc n) total i sums less = by (sums_at Is n sums.0 i sums.2) (in_order i n)
  where
    by : (i < n → (last : ℕ) × Is i last) → (i < n) ⊎ ((n < i) ⊎ (i ≡ n)) → (last : ℕ) × Is i last
    by rest (inl before) = rest before
    by rest (inr (inl behind)) = absurd (omega (arith, less, behind))
    by rest (inr (inr same)) = (sums.1, subst (λ (k : ℕ). Is k sums.1) (sym same) sums.3)

counts_or_lacks : (held : Held) (areas total at : ℕ) → Sums (HoldsFree held) areas total → LacksArea held areas at → ⊥
counts_or_lacks held areas total at sums lacks =
    let there = sums_at (HoldsFree held) areas total lacks.area sums lacks.there in
    none_some (held (own_block lacks.area) Shared) there.1.block lacks.missing there.1.there

lacks_same : (held : Held) (areas at other : ℕ) → LacksArea held areas at → LacksArea held areas other → at ≡ other
lacks_same held areas at other a b = by (in_order a.area b.area)
  where
    by : (a.area < b.area) ⊎ ((b.area < a.area) ⊎ (a.area ≡ b.area)) → at ≡ other
    by (inl less) = absurd (b.before a.area less a.missing)
    by (inr (inl less)) = absurd (a.before b.area less b.missing)
    by (inr (inr same)) = a.at_is ∙ ap own_block same ∙ sym b.at_is

pub one_count : (held : Held) (areas : ℕ) (a b : Result ℕ ChunkError) → HasMemory a → HasMemory b → CountsAt held areas a → CountsAt held areas b → a ≡ b
one_count held areas (Ok n) (Ok m) x y a b = ap Ok (sums_same (HoldsFree held) (free_same held) areas n m a b)
one_count held areas (Ok n) (Err (Need at mode)) x y a b = absurd (counts_or_lacks held areas n at a b.0)
one_count held areas (Err (Need at mode)) (Ok n) x y a b = absurd (counts_or_lacks held areas n at b a.0)
one_count held areas (Err (Need at mode)) (Err (Need other another)) x y a b = λ i. Err (Need (lacks_same held areas at other a.0 b.0 i) ((a.1 ∙ sym b.1) i))
one_count held areas (Err OutOfMemory) b x y c d = absurd x
one_count held areas (Err Stale) b x y c d = absurd c
one_count held areas (Err (Full spare)) b x y c d = absurd c
one_count held areas (Err Crowded) b x y c d = absurd c
one_count held areas (Ok n) (Err OutOfMemory) x y c d = absurd y
one_count held areas (Ok n) (Err Stale) x y c d = absurd d
one_count held areas (Ok n) (Err (Full spare)) x y c d = absurd d
one_count held areas (Ok n) (Err Crowded) x y c d = absurd d
one_count held areas (Err (Need at mode)) (Err OutOfMemory) x y c d = absurd y
one_count held areas (Err (Need at mode)) (Err Stale) x y c d = absurd d
one_count held areas (Err (Need at mode)) (Err (Full spare)) x y c d = absurd d
one_count held areas (Err (Need at mode)) (Err Crowded) x y c d = absurd d
