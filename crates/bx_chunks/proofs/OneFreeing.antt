-- Freeing has one answer.
use Rattle.std.proofs.Common.{◌≡◌, ℕ, ◌<◌, ◌≤◌, arith, List, length, Some, None, Result, Ok, Err, refl, sym, ap, subst, ◌∙◌}
use Rattle.std.specs.Prelude.{unwrap_or}
use Rattle.bx_base.specs.declared.names.Mode.TheVariants.{Exclusive}
use Rattle.bx_places.specs.Handles.{parts_of}
use Rattle.bx_layout.specs.declared.area.AreaBlock.{AreaBlock}
use Rattle.bx_layout.specs.declared.block.Block.{Block}
use Rattle.bx_records.specs.Drafts.{Changed, block_in}
use Rattle.bx_truth.specs.Chunks.{block_at}
use Rattle.bx_truth.specs.bx_views.specs.Truths.{Held}
use Rattle.bx_chunks.specs.Areas.{HasSlots, seen_in}
use Rattle.bx_chunks.specs.Freeing.{Frees, FreesAt, GivenIn, IsCrowded, IsInUse, IsNamed, IsNotGiven, LacksBlock, its_block, its_area, NamesNone, no_slot, another, not_given, own_at, slot_freed}
use Rattle.bx_chunks.specs.Memory.{HasMemory}
use Rattle.bx_chunks.specs.Reading.{NamesAnother}
use Rattle.bx_chunks.specs.declared.error.ChunkError.{ChunkError}
use Rattle.bx_chunks.specs.declared.error.ChunkError.TheVariants.{Need, Stale, Full, OutOfMemory, Crowded}
use Rattle.bx_chunks.proofs.OneCount.{slots_same}
use Rattle.bx_chunks.proofs.Options.{none_some, some_same, some_there}

module _ (held : Held) (old : List Changed) (handle : ℕ) where
  seen_missing : (at : ℕ) (block : Block) → seen_in held old at Exclusive ≡ Some block → held at Exclusive ≡ None → ⊥
  seen_missing at block seen none =
      let h = some_there (unwrap_or (block_in old at)) (held at Exclusive) block seen in
      none_some (held at Exclusive) h.0 none h.1

  named_another : IsNamed held old handle → NamesAnother (seen_in held old (block_at handle) Exclusive) handle → ⊥
  named_another a b = b.another (ap (λ (x : Block). x.handle) (some_same (seen_in held old (block_at handle) Exclusive) b.block a.block b.there a.there) ∙ a.header)

  given_slots : (s t : AreaBlock) → GivenIn held old handle s → GivenIn held old handle t → s ≡ t
  given_slots s t a b = slots_same (parts_of handle).area a.own b.own s t (some_same (seen_in held old (own_at handle) Exclusive) a.own b.own a.there b.there) a.has b.has

  given_not : (s : AreaBlock) → GivenIn held old handle s → IsNotGiven held old handle → ⊥
  given_not s a b = b.no s (subst (HasSlots (parts_of handle).area s) (some_same (seen_in held old (own_at handle) Exclusive) a.own b.own a.there b.there) a.has) a.given

  many_few : 960 ≤ (parts_of handle).slot → (parts_of handle).slot < 960 → ⊥
  many_few many less = by (parts_of handle).slot many less
    where
      by : (n : ℕ) → 960 ≤ n → n < 960 → ⊥
      by n many less = omega (arith, many, less)

  use_or_lacks : (s : AreaBlock) (at : ℕ) → IsInUse held old handle s → LacksBlock held old handle at → ⊥
  use_or_lacks s _ a (its_block less none) = seen_missing (block_at handle) a.named.block a.named.there none
  use_or_lacks s _ a (its_area named none) = seen_missing (own_at handle) a.area.own a.area.there none

  use_or_none : (s : AreaBlock) → IsInUse held old handle s → NamesNone held old handle → ⊥
  use_or_none s a (no_slot many) = many_few many a.named.slot
  use_or_none s a (another less names) = named_another a.named names
  use_or_none s a (not_given named without) = given_not s a.area without

  lacks_or_none : (at : ℕ) → LacksBlock held old handle at → NamesNone held old handle → ⊥
  lacks_or_none _ (its_block less none) (no_slot many) = many_few many less
  lacks_or_none _ (its_block less none) (another few names) = seen_missing (block_at handle) names.block names.there none
  lacks_or_none _ (its_block less none) (not_given named without) = seen_missing (block_at handle) named.block named.there none
  lacks_or_none _ (its_area named none) (no_slot many) = many_few many named.slot
  lacks_or_none _ (its_area named none) (another few names) = named_another named names
  lacks_or_none _ (its_area named none) (not_given also without) = seen_missing (own_at handle) without.own without.there none

  lacks_same : (at other : ℕ) → LacksBlock held old handle at → LacksBlock held old handle other → at ≡ other
  lacks_same _ _ (its_block less none) (its_block few missing) = refl
  lacks_same _ _ (its_block less none) (its_area named missing) = absurd (seen_missing (block_at handle) named.block named.there none)
  lacks_same _ _ (its_area named missing) (its_block less none) = absurd (seen_missing (block_at handle) named.block named.there none)
  lacks_same _ _ (its_area named none) (its_area also missing) = refl

  frees_or_crowded : (new : List Changed) → Frees held old new handle → IsCrowded held old handle → ⊥
  frees_or_crowded new a b =
      let same : length new ≡ length (slot_freed old handle b.slots) = ap (λ (l : List Changed). length l) (a.now ∙ ap (slot_freed old handle) (given_slots a.slots b.slots a.is.area b.is.area)) in
      by (length new) (length (slot_freed old handle b.slots)) same a.room b.no_room
    where
      by : (n m : ℕ) → n ≡ m → n ≤ 16 → 16 < m → ⊥
      by n m e room none = omega (arith, e, room, none)

  pub one_freeing : (new now : List Changed) (a b : Result (Unit {0}) ChunkError) → HasMemory a → HasMemory b → FreesAt held old new handle a → FreesAt held old now handle b → a ≡ b
  one_freeing new now (Ok x) (Ok y) m n a b = refl
  one_freeing new now (Ok x) (Err (Need at mode)) m n a b = absurd (use_or_lacks a.slots at a.is b.0)
  one_freeing new now (Ok x) (Err Stale) m n a b = absurd (use_or_none a.slots a.is b)
  one_freeing new now (Ok x) (Err Crowded) m n a b = absurd (frees_or_crowded new a b)
  one_freeing new now (Ok x) (Err OutOfMemory) m n a b = absurd n
  one_freeing new now (Ok x) (Err (Full spare)) m n a b = absurd b
  one_freeing new now (Err (Need at mode)) (Ok y) m n a b = absurd (use_or_lacks b.slots at b.is a.0)
  one_freeing new now (Err (Need at mode)) (Err (Need other another_mode)) m n a b = λ i. Err (Need (lacks_same at other a.0 b.0 i) ((a.1 ∙ sym b.1) i))
  one_freeing new now (Err (Need at mode)) (Err Stale) m n a b = absurd (lacks_or_none at a.0 b)
  one_freeing new now (Err (Need at mode)) (Err Crowded) m n a b = absurd (use_or_lacks b.slots at b.is a.0)
  one_freeing new now (Err (Need at mode)) (Err OutOfMemory) m n a b = absurd n
  one_freeing new now (Err (Need at mode)) (Err (Full spare)) m n a b = absurd b
  one_freeing new now (Err Stale) (Ok y) m n a b = absurd (use_or_none b.slots b.is a)
  one_freeing new now (Err Stale) (Err (Need at mode)) m n a b = absurd (lacks_or_none at b.0 a)
  one_freeing new now (Err Stale) (Err Stale) m n a b = refl
  one_freeing new now (Err Stale) (Err Crowded) m n a b = absurd (use_or_none b.slots b.is a)
  one_freeing new now (Err Stale) (Err OutOfMemory) m n a b = absurd n
  one_freeing new now (Err Stale) (Err (Full spare)) m n a b = absurd b
  one_freeing new now (Err Crowded) (Ok y) m n a b = absurd (frees_or_crowded now b a)
  one_freeing new now (Err Crowded) (Err (Need at mode)) m n a b = absurd (use_or_lacks a.slots at a.is b.0)
  one_freeing new now (Err Crowded) (Err Stale) m n a b = absurd (use_or_none a.slots a.is b)
  one_freeing new now (Err Crowded) (Err Crowded) m n a b = refl
  one_freeing new now (Err Crowded) (Err OutOfMemory) m n a b = absurd n
  one_freeing new now (Err Crowded) (Err (Full spare)) m n a b = absurd b
  one_freeing new now (Err OutOfMemory) b m n c d = absurd m
  one_freeing new now (Err (Full spare)) b m n c d = absurd c
