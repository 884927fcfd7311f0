-- The steps of making a file: room in a draft, what is needed, and what is held.
use Rattle.std.proofs.Common.{◌≡◌, ℕ, ◌+◌, ◌%◌, ◌^◌, ◌<◌, ◌≤◌, arith, Bool, true, false, List, [], ◌∷◌, length, get_or, inl, inr, sym, ap, ◌∙◌, subst, Result, Ok, Err}
use Rattle.std.specs.Prelude.{◌==◌, if◌then◌else◌, IsSome, OnOk}
use Rattle.bx_base.specs.declared.names.Mode.TheVariants.{Exclusive}
use Rattle.bx_layout.specs.declared.area.AreaBlock.{AreaBlock}
use Rattle.bx_layout.specs.declared.block.Block.{Block}
use Rattle.bx_layout.specs.declared.inode.Inode.{Inode}
use Rattle.bx_records.specs.Drafts.{Changed, with_block}
use Rattle.bx_truth.specs.Chunks.{block_at}
use Rattle.bx_truth.specs.Opening.{empty_page}
use Rattle.bx_views.specs.Attempts.{IsHeldDraft}
use Rattle.bx_views.specs.Truths.{Held}
use Rattle.bx_chunks.specs.Allocating.{AllocatesAt, NeedsFairly, next_handle, slot_block}
use Rattle.bx_chunks.specs.declared.error.ChunkError.{ChunkError}
use Rattle.bx_chunks.specs.declared.error.ChunkError.TheVariants.{Need, Stale, Full, OutOfMemory, Crowded}
use Rattle.bx_chunks.proofs.FairNeeds.{Shares, fair}
use Rattle.bx_chunks.proofs.HeldDrafts.{allocates_held}
use Rattle.bx_leaves.proofs.Fair.{page_held, put_held}
use Rattle.bx_making.specs.Making.{FillsAt, MakesAt}

-- ---- drafts

one_more : (draft : List Changed) (at : ℕ) (block : Block) → length (with_block draft at block) ≤ length draft + 1
one_more [] at block = omega arith
one_more (x ∷ draft) at block = by (x.0 == at) (one_more draft at block)
  where
    by : (t : Bool) → length (with_block draft at block) ≤ length draft + 1 → length (if t then (at, block) ∷ draft else x ∷ with_block draft at block) ≤ length (x ∷ draft) + 1
    by true rest = omega arith
    by false rest = omega (arith, rest)

pub fifteen : (old mid : List Changed) (at : ℕ) (block : Block) → mid ≡ with_block old at block → 16 ≤ length mid → 15 ≤ length old
fifteen old mid at block same many = let more = one_more old at block in let e = ap length same in omega (arith, more, e, many)

-- what stops the puts says nothing of the draft then
pub fills_same : (old new : List Changed) (handle page : ℕ) (inode : Inode) (error : ChunkError) → FillsAt old new handle page inode (Err error) → FillsAt old old handle page inode (Err error)
fills_same old new handle page inode Crowded f = f
fills_same old new handle page inode OutOfMemory f = f
fills_same old new handle page inode Stale f = f
fills_same old new handle page inode (Need at mode) f = f
fills_same old new handle page inode (Full spare) f = f

-- ---- what is needed

pub needs : (areas near : ℕ) (held : Held) (old new : List Changed) (inode : Inode) → Shares held → (result : Result ℕ ChunkError) → MakesAt held old new inode near areas result → NeedsFairly areas held result
needs areas near held old new inode shares (Ok handle) m = tt
needs areas near held old new inode shares (Err (Need at mode)) (inl first) = fair areas near held old old shares (Err (Need at mode)) first
needs areas near held old new inode shares (Err (Need at mode)) (inr (inl m)) = fair areas near held m.one m.one shares (Err (Need at mode)) m.second
needs areas near held old new inode shares (Err (Need at mode)) (inr (inr m)) = absurd m.fills
needs areas near held old new inode shares (Err Stale) m = tt
needs areas near held old new inode shares (Err (Full spare)) m = tt
needs areas near held old new inode shares (Err OutOfMemory) m = tt
needs areas near held old new inode shares (Err Crowded) m = tt

-- ---- what is held

low : (word : ℕ) → word % 2 ^ 31 + 1 < 2 ^ 32
low word = omega arith

new_block : (area : ℕ) (slots : AreaBlock) (slot : ℕ) → slot < 960 → block_at (next_handle area slots slot) ≡ slot_block area slot
new_block area slots slot less = let g = low (get_or slots.words slot 0) in omega (arith, less, g)

-- a slot that is taken
pub taken_held : (areas near : ℕ) (held : Held) (old one : List Changed) (handle : ℕ) → IsHeldDraft held old → AllocatesAt held old one near areas (Ok handle) → IsHeldDraft held one × IsSome (held (block_at handle) Exclusive)
taken_held areas near held old one handle before a =
    let t = a.takes in
    let at = new_block a.area a.slots a.slot a.next.free.lowest.there in (
      allocates_held held old one before near areas (Ok handle) a tt,
      subst (λ (b : ℕ). IsSome (held b Exclusive)) (sym (ap block_at t.1 ∙ at)) t.0.at_held,
    )

pub makes_held : (areas near : ℕ) (held : Held) (old new : List Changed) (inode : Inode) → IsHeldDraft held old → (result : Result ℕ ChunkError) → MakesAt held old new inode near areas result → OnOk result (IsHeldDraft held new)
makes_held areas near held old new inode before (Ok handle) m =
    let a = taken_held areas near held old m.one handle before m.first in
    let b = taken_held areas near held m.one m.two m.page a.0 m.second in
    let c = page_held held m.two m.fills.mid m.page empty_page b.0 b.1 m.fills.page_put in
    let p = m.fills.inode_put in
    subst (IsHeldDraft held) (sym p.put) (put_held held m.fills.mid (block_at handle) p.block c a.1 p.is.parts)
makes_held areas near held old new inode before (Err error) m = tt
