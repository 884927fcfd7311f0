-- Taking a slot has one answer.
use Rattle.std.proofs.Common.{◌≡◌, ℕ, ◌<◌, ◌≤◌, arith, true, false, List, length, Option, None, Result, Ok, Err, refl, sym, ap, ◌∙◌}
use Rattle.std.specs.Prelude.{IsSome, is_some}
use Rattle.bx_base.specs.declared.names.Mode.TheVariants.{Exclusive}
use Rattle.bx_layout.specs.declared.area.AreaBlock.{AreaBlock}
use Rattle.bx_layout.specs.declared.block.Block.{Block}
use Rattle.bx_records.specs.Drafts.{Changed}
use Rattle.bx_truth.specs.Chunks.{own_block}
use Rattle.bx_truth.specs.bx_views.specs.Truths.{Held}
use Rattle.bx_chunks.specs.Allocating.{HoldsBoth, LacksOneOf, first, second, TakesAt, slot_block, slot_taken}
use Rattle.bx_chunks.specs.Memory.{HasMemory}
use Rattle.bx_chunks.specs.declared.error.ChunkError.{ChunkError}
use Rattle.bx_chunks.specs.declared.error.ChunkError.TheVariants.{Need, Stale, Full, OutOfMemory, Crowded}

held_not : (o : Option Block) → IsSome o → o ≡ None → ⊥
held_not o some none = let e : false ≡ true = ap (λ (p : Option Block). is_some p) (sym none) ∙ some in cc

both_or_one : (held : Held) (own at x : ℕ) → HoldsBoth held own at → LacksOneOf held own at x → ⊥
both_or_one held own at _ both (first none) = held_not (held own Exclusive) both.own_held none
both_or_one held own at _ both (second some none) = held_not (held at Exclusive) both.at_held none

one_lacks : (held : Held) (own at x y : ℕ) → LacksOneOf held own at x → LacksOneOf held own at y → x ≡ y
one_lacks held own at _ _ (first none) (first also) = refl
one_lacks held own at _ _ (first none) (second some also) = absurd (held_not (held own Exclusive) some none)
one_lacks held own at _ _ (second some none) (first also) = absurd (held_not (held own Exclusive) some also)
one_lacks held own at _ _ (second some none) (second others also) = refl

room_or_none : (new after : List Changed) → new ≡ after → length new ≤ 16 → 16 < length after → ⊥
room_or_none new after same room none = let e : length new ≡ length after = ap (λ (l : List Changed). length l) same in absurd (omega (arith, e, room, none))

module _ (held : Held) (old new now : List Changed) (area : ℕ) (slots : AreaBlock) (slot : ℕ) where
  pub one_take : (r s : Result ℕ ChunkError) → HasMemory r → HasMemory s → TakesAt held old new area slots slot r → TakesAt held old now area slots slot s → r ≡ s
  one_take (Ok h) (Ok g) x y a b = ap Ok (a.1 ∙ sym b.1)
  one_take (Ok h) (Err (Need at mode)) x y a b = absurd (both_or_one held (own_block area) (slot_block area slot) at a.0 b.0)
  one_take (Ok h) (Err Crowded) x y a b = absurd (room_or_none new (slot_taken old area slots slot) a.2 a.3 b.1)
  one_take (Ok h) (Err Stale) x y a b = absurd b
  one_take (Ok h) (Err (Full spare)) x y a b = absurd b
  one_take (Ok h) (Err OutOfMemory) x y a b = absurd y
  one_take (Err (Need at mode)) (Ok g) x y a b = absurd (both_or_one held (own_block area) (slot_block area slot) at b.0 a.0)
  one_take (Err (Need at mode)) (Err (Need other another)) x y a b = λ i. Err (Need (one_lacks held (own_block area) (slot_block area slot) at other a.0 b.0 i) ((a.1 ∙ sym b.1) i))
  one_take (Err (Need at mode)) (Err Crowded) x y a b = absurd (both_or_one held (own_block area) (slot_block area slot) at b.0 a.0)
  one_take (Err (Need at mode)) (Err Stale) x y a b = absurd b
  one_take (Err (Need at mode)) (Err (Full spare)) x y a b = absurd b
  one_take (Err (Need at mode)) (Err OutOfMemory) x y a b = absurd y
  one_take (Err Crowded) (Ok g) x y a b = absurd (room_or_none now (slot_taken old area slots slot) b.2 b.3 a.1)
  one_take (Err Crowded) (Err (Need at mode)) x y a b = absurd (both_or_one held (own_block area) (slot_block area slot) at a.0 b.0)
  one_take (Err Crowded) (Err Crowded) x y a b = refl
  one_take (Err Crowded) (Err Stale) x y a b = absurd b
  one_take (Err Crowded) (Err (Full spare)) x y a b = absurd b
  one_take (Err Crowded) (Err OutOfMemory) x y a b = absurd y
  one_take (Err Stale) s x y a b = absurd a
  one_take (Err (Full spare)) s x y a b = absurd a
  one_take (Err OutOfMemory) s x y a b = absurd x
