-- A block put under a handle in use: the chunk is another, and the slots stay.
use Rattle.std.proofs.Common.{◌≡◌, ℕ, List, sym, subst, Some}
use Rattle.bx_layout.specs.declared.block.Block.{Block}
use Rattle.bx_records.specs.Drafts.{Changed, with_block}
use Rattle.bx_truth.specs.Chunks.{block_at, chunks_of, own_block}
use Rattle.bx_truth.specs.Edits.{ChunkAnew}
use Rattle.bx_truth.specs.Shown.{KeepsSlots}
use Rattle.bx_truth.proofs.Dirs.{keeps_slots}
use Rattle.bx_truth.proofs.Same.{chunk_is}
use Rattle.bx_views.specs.Truths.{Truth, Held, with_draft}
use Rattle.bx_leaves.specs.bx_blink.proofs.Sees.{Holds}
use Rattle.bx_leaves.proofs.Written.{draft_elsewhere, holds_still, own_not_slot, puts_writes}

module _ (areas : ℕ) (held : Held) (truth : Truth) (old new : List Changed) (handle : ℕ) (before block : Block) (holds : Holds areas held truth old)
    (was : chunks_of areas (with_draft truth old) handle ≡ Some before) (header : block.handle ≡ handle) (put : new ≡ with_block old (block_at handle) block) where
  pub put_chunk : ChunkAnew (chunks_of areas (with_draft truth old)) (chunks_of areas (with_draft truth new)) handle block
  put_chunk = subst (λ (d : List Changed). ChunkAnew (chunks_of areas (with_draft truth old)) (chunks_of areas (with_draft truth d)) handle block) (sym put) (puts_writes areas held truth old handle before block holds was header)

  pub put_holds : Holds areas held truth new
  put_holds = subst (Holds areas held truth) (sym put) (holds_still areas held truth old handle before block holds was header)

  pub put_slots : KeepsSlots areas (with_draft truth old) (with_draft truth new)
  put_slots = keeps_slots areas (with_draft truth old) (with_draft truth new) (record {
    chunked = put_holds.chunked;
    own = λ area less. subst (λ (d : List Changed). with_draft truth d (own_block area) ≡ with_draft truth old (own_block area)) (sym put)
        (draft_elsewhere truth old (block_at handle) (own_block area) block (own_not_slot areas (block_at handle) area (chunk_is areas (with_draft truth old) handle before was).slot));
  })
