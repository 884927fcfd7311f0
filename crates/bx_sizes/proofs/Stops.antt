-- What stops clearing a piece of a file is never that it is lost.
use Rattle.std.proofs.Common.{◌≡◌, ℕ, true, false, List, Some, sym, ap, ◌∙◌, inl, inr, Err}
use Rattle.bx_base.specs.declared.names.Mode.TheVariants.{Exclusive}
use Rattle.bx_changes.specs.bx_files.proofs.Slots.{slot_is_block}
use Rattle.bx_inodes.specs.declared.stop.Stop.{Stop}
use Rattle.bx_inodes.specs.declared.stop.Stop.TheVariants.{Need, Inner, Status, OutOfMemory}
use Rattle.bx_layout.specs.declared.block.Block.{Block}
use Rattle.bx_model.specs.declared.tree.Tree.{Tree}
use Rattle.bx_page.specs.declared.entry.Entry.{Entry}
use Rattle.bx_truth.specs.Chunks.{IsChunked, block_at, chunks_of}
use Rattle.bx_truth.proofs.Same.{chunk_is}
use Rattle.bx_views.specs.Truths.{Held, IsTruth, Truth}
use Rattle.bx_sizes.specs.Answers.{Clears}
use Rattle.bx_sizes.specs.Clearing.{FindsLast}
use Rattle.bx_sizes.specs.Steps.{LacksPiece}

-- the block of a handle in use is there
pub not_lost : (areas : ℕ) (held : Held) (truth : Truth) (names : ℕ) (block : Block) → IsTruth held truth → IsChunked areas truth → chunks_of areas truth names ≡ Some block → LacksPiece areas held names → ⊥
not_lost areas held truth names block same chunked there (inl none) =
    let c = chunk_is areas truth names block there in
    let both : true ≡ false = sym (slot_is_block areas (block_at names) c.slot) ∙ none in absurd cc
not_lost areas held truth names block same chunked there (inr other) =
    let c = chunk_is areas truth names block there in
    other.other (sym (ap (λ (b : Block). b.handle) (same.each (block_at names) Exclusive other.block other.there)) ∙ chunked.used (block_at names) c.slot c.used ∙ sym c.is_handle)

pub search_stops : (areas : ℕ) (truth : Truth) (tree : Tree) (map : List Entry) (from end : ℕ) (stop : Stop) → FindsLast map from end (Err stop) → Clears areas truth tree (Err stop)
search_stops areas truth tree map from end (Need at mode) f = tt
search_stops areas truth tree map from end (Inner blocks) f = f
search_stops areas truth tree map from end (Status status) f = f
search_stops areas truth tree map from end OutOfMemory f = tt
