-- What the calls that change an entry of a leaf do, by how the walk to the key's leaf ends, on any content.
use Rattle.std.specs.Prelude.{◌≡◌, ℕ, ◌+◌, ◌<◌, ◌⊎◌, List, length, Some, None, IsSome, Result, Ok, Err}
use Rattle.bx_base.specs.declared.names.Mode.{Mode}
use Rattle.bx_base.specs.declared.names.Mode.TheVariants.{Exclusive}
use Rattle.bx_layout.specs.declared.block.Block.{Block}
use Rattle.bx_layout.specs.Blocks.{HasParts}
use Rattle.bx_records.specs.Drafts.{Changed, block_in, with_block}
use Rattle.bx_page.specs.Contents.{Contents, size, value_of, with_value, without_key}
use Rattle.bx_page.specs.Spelling.{Spells}
use Rattle.bx_blink.specs.bx_truth.specs.Chunks.{block_at}
use Rattle.bx_blink.specs.bx_truth.specs.PageTrees.{HasPage}
use Rattle.bx_blink.specs.bx_views.specs.Truths.{Held, Hints}
use Rattle.bx_blink.specs.declared.error.BlinkError.{BlinkError}
use Rattle.bx_blink.specs.declared.error.BlinkError.TheVariants.{Need, Stale, Full, NoRoom, Absent, Present, OutOfMemory, Crowded}
use Rattle.bx_blink.specs.declared.steps.End.{End}
use Rattle.bx_blink.specs.declared.steps.End.TheVariants.{Needs, Lost, Lands}
use Rattle.bx_blink.specs.Walks.{Reads, reads_with, Ends, start, most, OnPath}

-- how the walk to a key's leaf ends, which is asked for exclusively, and its path
abbrev pub LeafEnds : Reads → ℕ → List ℕ → End → Type 0
LeafEnds reads root key = Ends reads 0 Exclusive key most (start root Exclusive)

abbrev pub OnLeafPath : Reads → ℕ → List ℕ → ℕ → Mode → Type 0
OnLeafPath reads root key = OnPath reads 0 Exclusive key most (start root Exclusive)

-- the walk lands at a leaf, which is held exclusively
pub record IsLeafAt (reads : Reads) (root : ℕ) (key : List ℕ) (handle : ℕ) (page : Contents) : Type 0 where
  pub end : LeafEnds reads root key (Lands handle page)
  pub block : Block
  pub held : reads.held (block_at handle) Exclusive ≡ Some block

-- it lands at one that isn't
pub record IsLeafShort (reads : Reads) (root : ℕ) (key : List ℕ) (at : ℕ) (mode : Mode) : Type 0 where
  pub handle : ℕ
  pub page : Contents
  pub end : LeafEnds reads root key (Lands handle page)
  pub at_is : at ≡ block_at handle
  pub mode_is : mode ≡ Exclusive
  pub none : reads.held (block_at handle) Exclusive ≡ None

-- a block is needed on the way to the leaf, or is the leaf's
abbrev pub NeedsLeaf : Reads → ℕ → List ℕ → ℕ → Mode → Type 0
NeedsLeaf reads root key at mode = LeafEnds reads root key (Needs at mode) ⊎ IsLeafShort reads root key at mode

-- the leaf of a key, to be changed
abbrev pub LeafOf : Reads → ℕ → List ℕ → Result (ℕ × Contents) BlinkError → Type 0
LeafOf reads root key (Ok leaf) = IsLeafAt reads root key leaf.0 leaf.1
LeafOf reads root key (Err (Need at mode)) = NeedsLeaf reads root key at mode
LeafOf reads root key (Err Stale) = LeafEnds reads root key Lost
LeafOf reads root key (Err OutOfMemory) = ⊥
LeafOf reads root key (Err (Full spare)) = ⊥
LeafOf reads root key (Err (NoRoom leaf)) = ⊥
LeafOf reads root key (Err Absent) = ⊥
LeafOf reads root key (Err Present) = ⊥
LeafOf reads root key (Err Crowded) = ⊥

-- a draft has sixteen blocks, and this isn't one of them
pub record IsCrowded (draft : List Changed) (at : ℕ) : Type 0 where
  pub many : length draft ≡ 16
  pub other : block_in draft at ≡ None

-- a page is put into a draft under its handle
pub record PutsPage (old new : List Changed) (handle : ℕ) (page : Contents) : Type 0 where
  pub block : Block
  pub header : block.handle ≡ handle
  pub has : HasPage page block
  pub parts : HasParts block
  pub put : new ≡ with_block old (block_at handle) block
  pub fits : IsCrowded old (block_at handle) → ⊥

-- what comes of putting a page into a draft
abbrev pub PutsOrNot : List Changed → List Changed → ℕ → Contents → Result Unit BlinkError → Type 0
PutsOrNot old new handle page (Ok done) = PutsPage old new handle page
PutsOrNot old new handle page (Err Crowded) = IsCrowded old (block_at handle)
PutsOrNot old new handle page (Err OutOfMemory) = Unit {0}
PutsOrNot old new handle page (Err (Need at mode)) = ⊥
PutsOrNot old new handle page (Err Stale) = ⊥
PutsOrNot old new handle page (Err (Full spare)) = ⊥
PutsOrNot old new handle page (Err (NoRoom leaf)) = ⊥
PutsOrNot old new handle page (Err Absent) = ⊥
PutsOrNot old new handle page (Err Present) = ⊥

-- the leaf of a key has it, or hasn't
pub record HasKey (reads : Reads) (root : ℕ) (key : List ℕ) (handle : ℕ) (page : Contents) : Type 0 where
  pub leaf : IsLeafAt reads root key handle page
  pub has : IsSome (value_of page.entries key)

pub record LacksKey (reads : Reads) (root : ℕ) (key : List ℕ) (handle : ℕ) (page : Contents) : Type 0 where
  pub leaf : IsLeafAt reads root key handle page
  pub absent : value_of page.entries key ≡ None

-- the page as the view holds it, exclusively, has less left than two greatest entries take, which are 544 bytes
pub record IsPageNearlyFull (held : Held) (handle : ℕ) : Type 0 where
  pub block : Block
  pub there : held (block_at handle) Exclusive ≡ Some block
  pub header : block.handle ≡ handle
  pub page : Contents
  pub has : HasPage page block
  pub full : 4096 < size page + 544

-- the leaf has no room for an entry
abbrev pub HasNoRoom : Held → ℕ → Contents → List ℕ → List ℕ → Type 0
HasNoRoom held handle page key value = IsPageNearlyFull held handle ⊎ (4096 < size (with_value page key value))

-- the leaf hasn't got the key, and has no room for an entry; or takes it
pub record RefusesEntry (held : Held) (reads : Reads) (root : ℕ) (key value : List ℕ) (handle : ℕ) : Type 0 where
  pub page : Contents
  pub lacks : LacksKey reads root key handle page
  pub full : HasNoRoom held handle page key value

pub record TakesEntry (held : Held) (reads : Reads) (root : ℕ) (key value : List ℕ) (handle : ℕ) (page : Contents) : Type 0 where
  pub lacks : LacksKey reads root key handle page
  pub room : HasNoRoom held handle page key value → ⊥

-- The leaf of a key, written with an entry that it hasn't got and takes; or why not.
pub record WritesEntry (held : Held) (reads : Reads) (root : ℕ) (key value payload : List ℕ) (handle : ℕ) : Type 0 where
  pub page : Contents
  pub takes : TakesEntry held reads root key value handle page
  pub spells : Spells (with_value page key value) payload

abbrev pub LeafWith : Held → Reads → ℕ → List ℕ → List ℕ → List ℕ → Result ℕ BlinkError → Type 0
LeafWith held reads root key value payload (Ok handle) = WritesEntry held reads root key value payload handle
LeafWith held reads root key value payload (Err (Need at mode)) = NeedsLeaf reads root key at mode
LeafWith held reads root key value payload (Err Stale) = LeafEnds reads root key Lost
LeafWith held reads root key value payload (Err Present) = (handle : ℕ) × (page : Contents) × HasKey reads root key handle page
LeafWith held reads root key value payload (Err (NoRoom handle)) = RefusesEntry held reads root key value handle
LeafWith held reads root key value payload (Err Crowded) = ⊥
LeafWith held reads root key value payload (Err OutOfMemory) = ⊥
LeafWith held reads root key value payload (Err (Full spare)) = ⊥
LeafWith held reads root key value payload (Err Absent) = ⊥

-- The leaf of a key, written without the key's entry; or why not.
pub record WritesWithout (reads : Reads) (root : ℕ) (key payload : List ℕ) (handle : ℕ) : Type 0 where
  pub page : Contents
  pub has : HasKey reads root key handle page
  pub spells : Spells (without_key page key) payload

abbrev pub LeafWithout : Reads → ℕ → List ℕ → List ℕ → Result ℕ BlinkError → Type 0
LeafWithout reads root key payload (Ok handle) = WritesWithout reads root key payload handle
LeafWithout reads root key payload (Err (Need at mode)) = NeedsLeaf reads root key at mode
LeafWithout reads root key payload (Err Stale) = LeafEnds reads root key Lost
LeafWithout reads root key payload (Err Absent) = (handle : ℕ) × (page : Contents) × LacksKey reads root key handle page
LeafWithout reads root key payload (Err Present) = ⊥
LeafWithout reads root key payload (Err (NoRoom handle)) = ⊥
LeafWithout reads root key payload (Err Crowded) = ⊥
LeafWithout reads root key payload (Err OutOfMemory) = ⊥
LeafWithout reads root key payload (Err (Full spare)) = ⊥

-- the leaf is put into the draft with the entry, or without the key
pub record PutsEntry (held : Held) (reads : Reads) (old new : List Changed) (root : ℕ) (key value : List ℕ) : Type 0 where
  pub handle : ℕ
  pub page : Contents
  pub takes : TakesEntry held reads root key value handle page
  pub puts : PutsPage old new handle (with_value page key value)

pub record TakesOut (reads : Reads) (old new : List Changed) (root : ℕ) (key : List ℕ) : Type 0 where
  pub handle : ℕ
  pub page : Contents
  pub has : HasKey reads root key handle page
  pub puts : PutsPage old new handle (without_key page key)

-- What `insert` does, by how the walk ends. It looks for the key first, then for room in the leaf, then for room in the draft.
abbrev pub InsertsAt : Held → Hints → List Changed → List Changed → ℕ → List ℕ → List ℕ → Result Unit BlinkError → Type 0
InsertsAt held hints old new root key value (Ok done) = PutsEntry held (reads_with held hints old) old new root key value
InsertsAt held hints old new root key value (Err (Need at mode)) = NeedsLeaf (reads_with held hints old) root key at mode
InsertsAt held hints old new root key value (Err Stale) = LeafEnds (reads_with held hints old) root key Lost
InsertsAt held hints old new root key value (Err Present) = (handle : ℕ) × (page : Contents) × HasKey (reads_with held hints old) root key handle page
InsertsAt held hints old new root key value (Err (NoRoom handle)) = RefusesEntry held (reads_with held hints old) root key value handle
InsertsAt held hints old new root key value (Err Crowded) = (handle : ℕ) × (page : Contents) × TakesEntry held (reads_with held hints old) root key value handle page × IsCrowded old (block_at handle)
InsertsAt held hints old new root key value (Err OutOfMemory) = Unit {0}
InsertsAt held hints old new root key value (Err (Full spare)) = ⊥
InsertsAt held hints old new root key value (Err Absent) = ⊥

-- What `remove` does, by how the walk ends.
abbrev pub RemovesAt : Held → Hints → List Changed → List Changed → ℕ → List ℕ → Result Unit BlinkError → Type 0
RemovesAt held hints old new root key (Ok done) = TakesOut (reads_with held hints old) old new root key
RemovesAt held hints old new root key (Err (Need at mode)) = NeedsLeaf (reads_with held hints old) root key at mode
RemovesAt held hints old new root key (Err Stale) = LeafEnds (reads_with held hints old) root key Lost
RemovesAt held hints old new root key (Err Absent) = (handle : ℕ) × (page : Contents) × LacksKey (reads_with held hints old) root key handle page
RemovesAt held hints old new root key (Err Crowded) = (handle : ℕ) × (page : Contents) × HasKey (reads_with held hints old) root key handle page × IsCrowded old (block_at handle)
RemovesAt held hints old new root key (Err OutOfMemory) = Unit {0}
RemovesAt held hints old new root key (Err (Full spare)) = ⊥
RemovesAt held hints old new root key (Err (NoRoom leaf)) = ⊥
RemovesAt held hints old new root key (Err Present) = ⊥
