-- How a key is looked for down a page tree over what is held alone: from the root, never to the right. On any content.
use Rattle.std.specs.Prelude.{◌≡◌, ◌≢◌, ℕ, suc, ◌<◌, ◌⊎◌, true, false, List, Some, None}
use Rattle.bx_base.specs.declared.names.Mode.TheVariants.{Shared}
use Rattle.bx_blink.specs.Walks.{IsNoPage, passes, child_of}
use Rattle.bx_layout.specs.declared.block.Block.{Block}
use Rattle.bx_page.specs.Contents.{Contents}
use Rattle.bx_ready.specs.declared.descents.Descent.{Descent}
use Rattle.bx_ready.specs.declared.descents.Descent.TheVariants.{Needs, Lost, Short, Arrives}
use Rattle.bx_ready.specs.declared.descents.Found.{Found}
use Rattle.bx_ready.specs.declared.descents.Found.TheVariants.{Missing, Strange, Held as HeldPage}
use Rattle.bx_ready.specs.declared.descents.Step.{Step}
use Rattle.bx_ready.specs.declared.descents.Step.TheVariants.{Goes, Stops}
use Rattle.bx_truth.specs.Chunks.{block_at}
use Rattle.bx_truth.specs.PageTrees.{HasPage}
use Rattle.bx_views.specs.Truths.{Held}

-- a page is held, shared at least, under a handle
pub record HoldsPage (held : Held) (handle : ℕ) (page : Contents) : Type 0 where
  pub block : Block
  pub there : held (block_at handle) Shared ≡ Some block
  pub header : block.handle ≡ handle
  pub has : HasPage page block

-- a block is held there that isn't the page's: its header names another handle, or it is no page
pub record HoldsStrange (held : Held) (handle : ℕ) : Type 0 where
  pub block : Block
  pub there : held (block_at handle) Shared ≡ Some block
  pub other : (block.handle ≢ handle) ⊎ IsNoPage block

-- what is found under a handle
abbrev pub FindsPage : Held → ℕ → Found → Type 0
FindsPage held handle Missing = held (block_at handle) Shared ≡ None
FindsPage held handle Strange = HoldsStrange held handle
FindsPage held handle (HeldPage page) = HoldsPage held handle page

-- the key isn't above the range of a page that is held
pub record Stays (held : Held) (handle : ℕ) (key : List ℕ) (page : Contents) : Type 0 where
  pub holds : HoldsPage held handle page
  pub stays : passes page key ≡ false

-- all keys of a page that is held are below the key
pub record EndsBelow (held : Held) (handle : ℕ) (key : List ℕ) : Type 0 where
  pub page : Contents
  pub holds : HoldsPage held handle page
  pub passed : passes page key ≡ true

-- the key isn't above the range of a page above the leaves, which names another for it
pub record Names (held : Held) (handle : ℕ) (key : List ℕ) (next : ℕ) : Type 0 where
  pub page : Contents
  pub here : Stays held handle key page
  pub above : 0 < page.level
  pub next_is : next ≡ child_of page key

-- it isn't above the range of a leaf
pub record Ends (held : Held) (handle : ℕ) (key : List ℕ) : Type 0 where
  pub page : Contents
  pub here : Stays held handle key page
  pub leaf : page.level ≡ 0

-- one step
abbrev pub StopsAt : Held → ℕ → List ℕ → Descent → Type 0
StopsAt held handle key (Needs at) = (at ≡ block_at handle) × (held (block_at handle) Shared ≡ None)
StopsAt held handle key Lost = HoldsStrange held handle
StopsAt held handle key (Short page) = (page ≡ handle) × EndsBelow held handle key
StopsAt held handle key Arrives = Ends held handle key

abbrev pub StepsAt : Held → ℕ → List ℕ → Step → Type 0
StepsAt held handle key (Goes next) = Names held handle key next
StepsAt held handle key (Stops end) = StopsAt held handle key end

-- Pages lead to a page, by their handles: the root leads to itself, and from a page that is held the one follows that it names for the key.
pub data LeadsTo (held : Held) (root : ℕ) (key : List ℕ) : ℕ → ℕ → Type 0 where
  begins : LeadsTo held root key 0 root
  down : (depth handle next : ℕ) → LeadsTo held root key depth handle → Names held handle key next → LeadsTo held root key (suc depth) next

-- pages lead to one where a descent stops so
pub record LeadsWhere (held : Held) (root : ℕ) (key : List ℕ) (end : Descent) : Type 0 where
  pub depth : ℕ
  pub handle : ℕ
  pub leads : LeadsTo held root key depth handle
  pub stops : StopsAt held handle key end

-- Where a descent ends: where it stops, or, where it comes to more pages than it may, it is lost.
abbrev pub DescendsTo : Held → ℕ → List ℕ → Descent → Type 0
DescendsTo held root key (Needs at) = LeadsWhere held root key (Needs at)
DescendsTo held root key Lost = LeadsWhere held root key Lost ⊎ ((handle : ℕ) × LeadsTo held root key 61441 handle)
DescendsTo held root key (Short page) = LeadsWhere held root key (Short page)
DescendsTo held root key Arrives = LeadsWhere held root key Arrives
