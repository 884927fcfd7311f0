-- What a step leaves less of, so that steps come to an end: of slots in use one, or else of a root's entries all but one.
use Rattle.std.specs.Prelude.{◌≡◌, ◌≢◌, ℕ, ◌<◌, ◌⊎◌, length, Some, None}
use Rattle.bx_layout.specs.declared.block.Block.{Block}
use Rattle.bx_page.specs.Contents.{Contents}
use Rattle.bx_truth.specs.Chunks.{chunks_of}
use Rattle.bx_truth.specs.PageTrees.{HasPage}
use Rattle.bx_views.specs.Truths.{Truth}

-- a handle that was in use is no more, and none is in use that wasn't
pub record FreesOne (areas : ℕ) (truth now : Truth) : Type 0 where
  pub gone : ℕ
  pub was : chunks_of areas truth gone ≢ None
  pub none : chunks_of areas now gone ≡ None
  pub none_new : (handle : ℕ) (block : Block) → chunks_of areas now handle ≡ Some block → chunks_of areas truth handle ≢ None

-- a page under a handle
pub record HoldsPageOf (areas : ℕ) (truth : Truth) (handle : ℕ) (page : Contents) : Type 0 where
  pub block : Block
  pub chunk : chunks_of areas truth handle ≡ Some block
  pub has : HasPage page block

-- a page that had more entries than one has one, and all other chunks stay
pub record StripsOne (areas : ℕ) (truth now : Truth) : Type 0 where
  pub handle : ℕ
  pub page : Contents
  pub page_now : Contents
  pub was : HoldsPageOf areas truth handle page
  pub is : HoldsPageOf areas now handle page_now
  pub many : 1 < length page.entries
  pub one : length page_now.entries ≡ 1
  pub others : (other : ℕ) → other ≢ handle → chunks_of areas now other ≡ chunks_of areas truth other

abbrev pub Falls : ℕ → Truth → Truth → Type 0
Falls areas truth now = FreesOne areas truth now ⊎ StripsOne areas truth now
