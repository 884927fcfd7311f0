-- What is posted of a page, and what reading it answers, on any content.
use Rattle.std.specs.Prelude.{◌≡◌, ◌≢◌, ℕ, ◌+◌, ◌⊎◌, Some, None, IsSome, Result, Ok, Err}
use Rattle.bx_base.specs.declared.names.Mode.TheVariants.{Shared}
use Rattle.bx_layout.specs.declared.block.Block.{Block}
use Rattle.bx_page.specs.Contents.{Contents}
use Rattle.bx_truth.specs.Chunks.{block_at}
use Rattle.bx_truth.specs.PageTrees.{HasPage}
use Rattle.bx_blink.specs.declared.error.BlinkError.{BlinkError}
use Rattle.bx_blink.specs.declared.error.BlinkError.TheVariants.{Need, Stale, Full, NoRoom, Absent, Present, OutOfMemory, Crowded}
use Rattle.bx_blink.specs.Walks.{Reads, IsNoPage}
use Rattle.bx_posts.specs.declared.separators.Separator.{Separator}

-- a page is held, shared at least, under a handle
pub record IsShown (reads : Reads) (handle : ℕ) (page : Contents) : Type 0 where
  pub block : Block
  pub there : reads.held (block_at handle) Shared ≡ Some block
  pub header : block.handle ≡ handle
  pub has : HasPage page block

-- the page has a right neighbour, wherever it can be read
abbrev pub MayPost : Reads → ℕ → Type 0
MayPost reads handle = (contents : Contents) → IsShown reads handle contents → IsSome contents.high

-- a block is held that isn't the page's: its header names another handle, or it is no page
pub record IsStrange (reads : Reads) (handle : ℕ) : Type 0 where
  pub block : Block
  pub there : reads.held (block_at handle) Shared ≡ Some block
  pub other : (block.handle ≢ handle) ⊎ IsNoPage block

-- what reading a page answers
abbrev pub ShowsAt : Reads → ℕ → Result Contents BlinkError → Type 0
ShowsAt reads handle (Ok page) = IsShown reads handle page
ShowsAt reads handle (Err (Need at mode)) = (at ≡ block_at handle) × (mode ≡ Shared) × (reads.held (block_at handle) Shared ≡ None)
ShowsAt reads handle (Err Stale) = IsStrange reads handle
ShowsAt reads handle (Err OutOfMemory) = Unit {0}
ShowsAt reads handle (Err (Full spare)) = ⊥
ShowsAt reads handle (Err (NoRoom leaf)) = ⊥
ShowsAt reads handle (Err Absent) = ⊥
ShowsAt reads handle (Err Present) = ⊥
ShowsAt reads handle (Err Crowded) = ⊥

-- the separator of a page's right neighbour: it goes one level higher, for the page's high key, and names the neighbour
pub record IsSeparatorOf (page : Contents) (separator : Separator) : Type 0 where
  pub level : separator.level ≡ page.level + 1
  pub key : page.high ≡ Some separator.key
  pub child : separator.child ≡ page.right

pub record ShowsSeparator (reads : Reads) (handle : ℕ) (separator : Separator) : Type 0 where
  pub page : Contents
  pub shown : IsShown reads handle page
  pub is : IsSeparatorOf page separator

-- a page of the level 65535, which is none of a tree that a volume has room for
pub record IsHighest (reads : Reads) (handle : ℕ) : Type 0 where
  pub page : Contents
  pub shown : IsShown reads handle page
  pub highest : page.level ≡ 65535

-- what reading a separator answers
abbrev pub SeparatorAt : Reads → ℕ → Result Separator BlinkError → Type 0
SeparatorAt reads handle (Ok separator) = ShowsSeparator reads handle separator
SeparatorAt reads handle (Err (Need at mode)) = (at ≡ block_at handle) × (mode ≡ Shared) × (reads.held (block_at handle) Shared ≡ None)
SeparatorAt reads handle (Err Stale) = IsStrange reads handle ⊎ IsHighest reads handle
SeparatorAt reads handle (Err OutOfMemory) = Unit {0}
SeparatorAt reads handle (Err (Full spare)) = ⊥
SeparatorAt reads handle (Err (NoRoom leaf)) = ⊥
SeparatorAt reads handle (Err Absent) = ⊥
SeparatorAt reads handle (Err Present) = ⊥
SeparatorAt reads handle (Err Crowded) = ⊥
