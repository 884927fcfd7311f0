-- What splits answer, on any content.
use Rattle.std.specs.Prelude.{◌≡◌, ◌≢◌, ℕ, ◌⊎◌, List, None, Some, Result, Ok, Err}
use Rattle.bx_base.specs.declared.names.Mode.TheVariants.{Exclusive}
use Rattle.bx_layout.specs.declared.block.Block.{Block}
use Rattle.bx_records.specs.Drafts.{Changed}
use Rattle.bx_page.specs.Contents.{Contents, first_half, other_half}
use Rattle.bx_truth.specs.Chunks.{block_at}
use Rattle.bx_truth.specs.PageTrees.{HasPage}
use Rattle.bx_views.specs.Truths.{Held, Hints}
use Rattle.bx_chunks.specs.declared.error.ChunkError.{ChunkError}
use Rattle.bx_chunks.specs.declared.error.ChunkError.TheVariants.{Need as ChunkNeed, Stale as ChunkStale, Full as ChunkFull, OutOfMemory as ChunkOutOfMemory, Crowded as ChunkCrowded}
use Rattle.bx_chunks.specs.Allocating.{AllocatesAt}
use Rattle.bx_chunks.specs.Taking.{NoSlots, OnSlots}
use Rattle.bx_blink.specs.declared.error.BlinkError.{BlinkError}
use Rattle.bx_blink.specs.declared.error.BlinkError.TheVariants.{Need, Stale, Full, NoRoom, Absent, Present, OutOfMemory, Crowded}
use Rattle.bx_blink.specs.Walks.{Reads, reads_with, IsNoPage}
use Rattle.bx_leaves.specs.Leaves.{IsCrowded, PutsPage}
use Rattle.bx_splits.specs.Splits.{root_page}

-- how the errors of chunks are those of trees
abbrev pub of_chunk : ChunkError → BlinkError
of_chunk (ChunkNeed at mode) = Need at mode
of_chunk ChunkStale = Stale
of_chunk (ChunkFull spare) = Full spare
of_chunk ChunkOutOfMemory = OutOfMemory
of_chunk ChunkCrowded = Crowded

-- what taking a new handle answers, by the error where there is one
abbrev pub AllotFails : Held → List Changed → ℕ → ℕ → BlinkError → Type 0
AllotFails held old near areas (Need at mode) = AllocatesAt held old old near areas (Err (ChunkNeed at mode))
AllotFails held old near areas (Full spare) = AllocatesAt held old old near areas (Err (ChunkFull spare))
AllotFails held old near areas Crowded = AllocatesAt held old old near areas (Err ChunkCrowded)
AllotFails held old near areas OutOfMemory = Unit {0}
AllotFails held old near areas Stale = ⊥
AllotFails held old near areas (NoRoom leaf) = ⊥
AllotFails held old near areas Absent = ⊥
AllotFails held old near areas Present = ⊥

abbrev pub Allots : Held → List Changed → List Changed → ℕ → ℕ → Result ℕ BlinkError → Type 0
Allots held old new near areas (Ok handle) = AllocatesAt held old new near areas (Ok handle)
Allots held old new near areas (Err e) = AllotFails held old near areas e

-- what taking two handles answers: the first one fails, or the second
abbrev pub AllotTwoFails : Held → List Changed → ℕ → ℕ → BlinkError → Type 0
AllotTwoFails held old near areas e =
    AllotFails held old near areas e ⊎ ((left : ℕ) × (one : List Changed) × AllocatesAt held old one near areas (Ok left) × AllotFails held one near areas e)

abbrev pub AllotsTwo : Held → List Changed → List Changed → ℕ → ℕ → Result (ℕ × ℕ) BlinkError → Type 0
AllotsTwo held old new near areas (Ok pair) = (one : List Changed) × AllocatesAt held old one near areas (Ok pair.0) × AllocatesAt held one new near areas (Ok pair.1)
AllotsTwo held old new near areas (Err e) = AllotTwoFails held old near areas e

-- what putting two pages, each under its handle, answers
abbrev pub PutsTwo : List Changed → List Changed → ℕ → Contents → ℕ → Contents → Result Unit BlinkError → Type 0
PutsTwo old new one first other second (Ok done) = (mid : List Changed) × PutsPage old mid one first × PutsPage mid new other second
PutsTwo old new one first other second (Err Crowded) = IsCrowded old (block_at one) ⊎ ((mid : List Changed) × PutsPage old mid one first × IsCrowded mid (block_at other))
PutsTwo old new one first other second (Err OutOfMemory) = Unit {0}
PutsTwo old new one first other second (Err (Need at mode)) = ⊥
PutsTwo old new one first other second (Err Stale) = ⊥
PutsTwo old new one first other second (Err (Full spare)) = ⊥
PutsTwo old new one first other second (Err (NoRoom leaf)) = ⊥
PutsTwo old new one first other second (Err Absent) = ⊥
PutsTwo old new one first other second (Err Present) = ⊥

-- a handle is taken, and the page's other half is put under it, and its first half in the page's place
pub record CutsPage (held : Held) (old new : List Changed) (handle : ℕ) (page : Contents) (near areas : ℕ) : Type 0 where
  pub right : ℕ
  pub one : List Changed
  pub allots : AllocatesAt held old one near areas (Ok right)
  pub two : List Changed
  pub puts_other : PutsPage one two right (other_half page)
  pub puts_first : PutsPage two new handle (first_half page right)

-- it is, but the draft has no room for the pages
pub record CutCrowds (held : Held) (old : List Changed) (handle : ℕ) (page : Contents) (near areas : ℕ) : Type 0 where
  pub right : ℕ
  pub one : List Changed
  pub allots : AllocatesAt held old one near areas (Ok right)
  pub crowds : PutsTwo one one right (other_half page) handle (first_half page right) (Err Crowded)

-- what cutting a page that isn't the root answers, by the error where there is one
abbrev pub CutFails : Held → List Changed → ℕ → Contents → ℕ → ℕ → BlinkError → Type 0
CutFails held old handle page near areas (Need at mode) = AllotFails held old near areas (Need at mode)
CutFails held old handle page near areas (Full spare) = AllotFails held old near areas (Full spare)
CutFails held old handle page near areas Crowded = AllotFails held old near areas Crowded ⊎ CutCrowds held old handle page near areas
CutFails held old handle page near areas OutOfMemory = Unit {0}
CutFails held old handle page near areas Stale = ⊥
CutFails held old handle page near areas (NoRoom leaf) = ⊥
CutFails held old handle page near areas Absent = ⊥
CutFails held old handle page near areas Present = ⊥

abbrev pub CutsAt : Held → List Changed → List Changed → ℕ → Contents → ℕ → ℕ → Result Unit BlinkError → Type 0
CutsAt held old new handle page near areas (Ok done) = CutsPage held old new handle page near areas
CutsAt held old new handle page near areas (Err e) = CutFails held old handle page near areas e

-- two handles are taken, the halves are put under them, and the page of the next level in the root's place
pub record CutsRoot (held : Held) (old new : List Changed) (root : ℕ) (page : Contents) (near areas : ℕ) : Type 0 where
  pub left : ℕ
  pub right : ℕ
  pub two : List Changed
  pub allots : AllotsTwo held old two near areas (Ok (left, right))
  pub three : List Changed
  pub puts_first : PutsPage two three left (first_half page right)
  pub four : List Changed
  pub puts_other : PutsPage three four right (other_half page)
  pub middle : List ℕ
  pub high : (first_half page right).high ≡ Some middle
  pub puts_root : PutsPage four new root (root_page page left right middle)

-- they are, but the draft has no room for the pages
pub record RootCrowds (held : Held) (old : List Changed) (root : ℕ) (page : Contents) (near areas : ℕ) : Type 0 where
  pub left : ℕ
  pub right : ℕ
  pub two : List Changed
  pub allots : AllotsTwo held old two near areas (Ok (left, right))
  pub crowds : PutsTwo two two left (first_half page right) right (other_half page) (Err Crowded)
      ⊎ ((three : List Changed) × (four : List Changed) × PutsPage two three left (first_half page right) × PutsPage three four right (other_half page) × IsCrowded four (block_at root))

-- What cutting the root answers, by the error where there is one. A root of the level 65535 is none of a tree that a volume has room for.
abbrev pub RaiseFails : Held → List Changed → ℕ → Contents → ℕ → ℕ → BlinkError → Type 0
RaiseFails held old root page near areas (Need at mode) = AllotTwoFails held old near areas (Need at mode)
RaiseFails held old root page near areas (Full spare) = AllotTwoFails held old near areas (Full spare)
RaiseFails held old root page near areas Crowded = AllotTwoFails held old near areas Crowded ⊎ RootCrowds held old root page near areas
RaiseFails held old root page near areas Stale = page.level ≡ 65535
RaiseFails held old root page near areas OutOfMemory = Unit {0}
RaiseFails held old root page near areas (NoRoom leaf) = ⊥
RaiseFails held old root page near areas Absent = ⊥
RaiseFails held old root page near areas Present = ⊥

abbrev pub RaisesAt : Held → List Changed → List Changed → ℕ → Contents → ℕ → ℕ → Result Unit BlinkError → Type 0
RaisesAt held old new root page near areas (Ok done) = CutsRoot held old new root page near areas
RaisesAt held old new root page near areas (Err e) = RaiseFails held old root page near areas e

-- a page is held exclusively under a handle
pub record IsOwnPage (reads : Reads) (handle : ℕ) (page : Contents) : Type 0 where
  pub block : Block
  pub there : reads.held (block_at handle) Exclusive ≡ Some block
  pub header : block.handle ≡ handle
  pub has : HasPage page block

-- a block is held exclusively that isn't the page's: its header names another handle, or it is no page
pub record IsOther (reads : Reads) (handle : ℕ) : Type 0 where
  pub block : Block
  pub there : reads.held (block_at handle) Exclusive ≡ Some block
  pub other : (block.handle ≢ handle) ⊎ IsNoPage block

-- what reading a page to be changed answers
abbrev pub OwnsAt : Reads → ℕ → Result Contents BlinkError → Type 0
OwnsAt reads handle (Ok page) = IsOwnPage reads handle page
OwnsAt reads handle (Err (Need at mode)) = (at ≡ block_at handle) × (mode ≡ Exclusive) × (reads.held (block_at handle) Exclusive ≡ None)
OwnsAt reads handle (Err Stale) = IsOther reads handle
OwnsAt reads handle (Err OutOfMemory) = Unit {0}
OwnsAt reads handle (Err (Full spare)) = ⊥
OwnsAt reads handle (Err (NoRoom leaf)) = ⊥
OwnsAt reads handle (Err Absent) = ⊥
OwnsAt reads handle (Err Present) = ⊥
OwnsAt reads handle (Err Crowded) = ⊥

-- a page that was read is cut, as the root or as another
pub record CutsOwned (held : Held) (hints : Hints) (old new : List Changed) (root handle near areas : ℕ) (result : Result Unit BlinkError) : Type 0 where
  pub page : Contents
  pub owned : IsOwnPage (reads_with held hints old) handle page
  pub cuts : ((handle ≡ root) × RaisesAt held old new root page near areas result) ⊎ ((handle ≢ root) × CutsAt held old new handle page near areas result)

-- What `split` answers: of a page that can't be read why not, and else what comes of cutting it.
abbrev pub SplitsAt : Held → Hints → List Changed → List Changed → ℕ → ℕ → ℕ → ℕ → Result Unit BlinkError → Type 0
SplitsAt held hints old new root handle near areas (Ok done) = CutsOwned held hints old new root handle near areas (Ok done)
SplitsAt held hints old new root handle near areas (Err e) = OwnsAt (reads_with held hints old) handle (Err e) ⊎ CutsOwned held hints old old root handle near areas (Err e)

-- What a split needs isn't held in that mode, and is the page's block, exclusively, or what the next slot needs for a new page. It is full only
-- where that slot isn't there.
abbrev pub NeedsForSplit : Held → ℕ → ℕ → List Changed → ℕ → Result Unit BlinkError → Type 0
NeedsForSplit held near areas old handle (Err (Need at mode)) = (held at mode ≡ None) × (((at ≡ block_at handle) × (mode ≡ Exclusive)) ⊎ OnSlots held near areas old at mode)
NeedsForSplit held near areas old handle (Err Stale) = Unit {0}
NeedsForSplit held near areas old handle (Err (Full spare)) = NoSlots held near areas old spare
NeedsForSplit held near areas old handle (Err (NoRoom leaf)) = Unit {0}
NeedsForSplit held near areas old handle (Err Absent) = Unit {0}
NeedsForSplit held near areas old handle (Err Present) = Unit {0}
NeedsForSplit held near areas old handle (Err OutOfMemory) = Unit {0}
NeedsForSplit held near areas old handle (Err Crowded) = Unit {0}
NeedsForSplit held near areas old handle (Ok done) = Unit {0}
