-- What is told of what there is.
use Rattle.std.proofs.Common.{◌≡◌, ℕ, true, false, List, Option, Some, None, sym, ap, ◌∙◌, subst, inl, inr}
use Rattle.std.specs.Prelude.{Err, option_and_then}
use Rattle.bx_files.specs.Paths.{IsNeed}
use Rattle.bx_files.specs.Reads.{ArePieces, Tells}
use Rattle.bx_inodes.specs.declared.stop.Stop.{Stop}
use Rattle.bx_inodes.specs.declared.stop.Stop.TheVariants.{Need, Inner, Status, OutOfMemory}
use Rattle.bx_layout.specs.declared.block.Block.{Block}
use Rattle.bx_page.specs.Contents.{value_of}
use Rattle.bx_places.specs.Places.{is_block}
use Rattle.bx_chunks.specs.bx_truth.specs.Keys.{content_key}
use Rattle.bx_chunks.specs.bx_truth.specs.PageTrees.{Chunks, PageTree, handle_in, map_of}
use Rattle.bx_chunks.specs.bx_truth.specs.Stored.{HasContents, Owner, Stored, piece_of}
use Rattle.bx_chunks.specs.bx_truth.proofs.Frames.{handle_back}

-- a need of a block of the volume tells nothing
pub need_told : {T : Type 0} (there : T) (areas at : ℕ) (stop : Stop) → IsNeed areas at stop → is_block areas at ≡ true → Tells there (Err stop)
need_told there areas at stop (inl need) block = subst (λ (s : Stop). Tells there (Err s)) (sym need.1) tt
need_told there areas at stop (inr none) block = let both : true ≡ false = sym block ∙ none.0 in absurd cc

-- what stops the telling of one thing stops that of another
pub stops_told : {T U : Type 0} (there : T) (other : U) (stop : Stop) → Tells there (Err stop) → Tells other (Err stop)
stops_told there other (Need at mode) told = tt
stops_told there other (Inner blocks) told = told
stops_told there other (Status status) told = told
stops_told there other OutOfMemory told = tt

pub fill_stops : (pieces : ℕ → Option Block) (first len : ℕ) (into bytes : List ℕ) (stop : Stop) → ArePieces pieces first len into (Err stop) → Tells bytes (Err stop)
fill_stops pieces first len into bytes (Need at mode) are = tt
fill_stops pieces first len into bytes (Inner blocks) are = are
fill_stops pieces first len into bytes (Status status) are = are
fill_stops pieces first len into bytes OutOfMemory are = tt

-- ---- pieces

module _ (chunks : Chunks) (tree : PageTree) (index : ℕ) where
  pub no_piece : value_of (map_of tree) (content_key index) ≡ None → None ≡ piece_of chunks tree index
  no_piece none = sym (ap (option_and_then (λ value. chunks (handle_in value))) none)

  pub piece_is : (value : List ℕ) → value_of (map_of tree) (content_key index) ≡ Some value → piece_of chunks tree index ≡ chunks (handle_in value)
  piece_is value some = ap (option_and_then (λ value. chunks (handle_in value))) some

-- the block that the value of a piece names
pub piece_block : (chunks : Chunks) (owner : ℕ → Owner) (handle : ℕ) (stored : Stored) (index : ℕ) (value : List ℕ) → HasContents chunks owner handle stored → value_of (map_of stored.tree) (content_key index) ≡ Some value
    → (block : Block) × (chunks (handle_in value) ≡ Some block)
piece_block chunks owner handle stored index value has some =
    let c = has (content_key index) value some in
    (c.block, ap chunks (ap handle_in c.value_is ∙ handle_back c.names c.names_fits) ∙ c.chunk)
