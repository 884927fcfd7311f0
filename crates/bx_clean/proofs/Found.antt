-- What is read of a page and of a dead inode, where the truth has them.
use Rattle.std.proofs.Common.{◌≡◌, ℕ, Some, Err, sym, ap, subst, ◌∙◌, inl, inr}
use Rattle.bx_base.specs.declared.names.Mode.TheVariants.{Exclusive}
use Rattle.bx_chunks.specs.declared.error.ChunkError.{ChunkError}
use Rattle.bx_chunks.specs.declared.error.ChunkError.TheVariants.{Need, Stale, Full, OutOfMemory, Crowded}
use Rattle.bx_layout.specs.declared.block.Block.{Block}
use Rattle.bx_layout.specs.declared.inode.Inode.{Inode}
use Rattle.bx_page.specs.Contents.{Contents}
use Rattle.bx_page.proofs.Whole.{one_page}
use Rattle.bx_truth.specs.Chunks.{IsChunked, block_at, chunks_of}
use Rattle.bx_truth.specs.PageTrees.{HasPage}
use Rattle.bx_truth.specs.Stored.{HasInode}
use Rattle.bx_truth.proofs.Same.{chunk_is}
use Rattle.bx_views.specs.Truths.{Truth, Held, IsTruth}
use Rattle.bx_inodes.specs.Inodes.{HoldsInode}
use Rattle.bx_clean.specs.Held.{DeadAt, HoldsDead, HoldsNoDead, HoldsNoPage, HoldsPage, PageAt}

-- what is asked for, or want of memory
abbrev pub IsWant : ChunkError → Type 0
IsWant (Need at mode) = Unit {0}
IsWant OutOfMemory = Unit {0}
IsWant Stale = ⊥
IsWant Crowded = ⊥
IsWant (Full spare) = ⊥

module _ (areas : ℕ) (held : Held) (truth : Truth) (handle : ℕ) (block : Block) (same : IsTruth held truth) (chunked : IsChunked areas truth) (chunk : chunks_of areas truth handle ≡ Some block) where
  pub header : block.handle ≡ handle
  header = let c = chunk_is areas truth handle block chunk in
      ap (λ (b : Block). b.handle) (sym c.is_block) ∙ chunked.used (block_at handle) c.slot c.used ∙ sym c.is_handle

  seen : (b : Block) → held (block_at handle) Exclusive ≡ Some b → b ≡ block
  seen b there = sym (same.each (block_at handle) Exclusive b there) ∙ (chunk_is areas truth handle block chunk).is_block

  pub page_is : (page found : Contents) → HasPage page block → HoldsPage held areas handle found → found ≡ page
  page_is page found has h = one_page found page block.payload (subst (λ (b : Block). HasPage found b) (seen h.block h.is.there) h.has).spells has.spells

  pub page_err : (page : Contents) → HasPage page block → (error : ChunkError) → PageAt held areas handle (Err error) → IsWant error
  page_err page has (Need at mode) f = tt
  page_err page has OutOfMemory f = tt
  page_err page has Stale f = by (f (chunk_is areas truth handle block chunk).slot)
    where
      by : HoldsNoPage held handle → ⊥
      by n = elim n.none [
        | inl other ↦ other (ap (λ (b : Block). b.handle) (seen n.block n.there) ∙ header)
        | inr other_than ↦ other_than page (subst (λ (b : Block). HasPage page b) (sym (seen n.block n.there)) has)
      ]
  page_err page has (Full spare) f = f
  page_err page has Crowded f = f

  pub dead_holds : (inode : Inode) → HoldsDead held areas handle inode → HoldsInode areas truth handle inode
  dead_holds inode h = record { block = h.block; chunk = chunk ∙ ap (λ (b : Block). Some b) (sym (seen h.block h.is.there)); has = h.has }

  pub dead_err : (inode : Inode) → HoldsInode areas truth handle inode → inode.kind ≡ 0 → (error : ChunkError) → DeadAt held areas handle (Err error) → IsWant error
  dead_err inode holds dead (Need at mode) f = tt
  dead_err inode holds dead OutOfMemory f = tt
  dead_err inode holds dead Stale f = by (f (chunk_is areas truth handle block chunk).slot)
    where
      some_same : (a b : Block) → Some a ≡ Some b → a ≡ b
      some_same a b e = cc

      by : HoldsNoDead held handle → ⊥
      by n =
          let is : n.block ≡ holds.block = seen n.block n.there ∙ some_same block holds.block (sym chunk ∙ holds.chunk) in
          n.none (ap (λ (b : Block). b.handle) (seen n.block n.there) ∙ header) inode (subst (λ (b : Block). HasInode inode b) (sym is) holds.has) dead
  dead_err inode holds dead (Full spare) f = f
  dead_err inode holds dead Crowded f = f
