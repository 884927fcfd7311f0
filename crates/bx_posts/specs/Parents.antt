-- The parent that a separator goes to, and what putting it there answers, on any content.
use Rattle.std.specs.Prelude.{◌≡◌, ℕ, ◌+◌, ◌<◌, ◌≤◌, ◌⊎◌, List, Some, None, Result, Ok, Err}
use Rattle.std.specs.Int.{w64, to_be_bytes}
use Rattle.bx_base.specs.declared.names.Mode.{Mode}
use Rattle.bx_base.specs.declared.names.Mode.TheVariants.{Exclusive}
use Rattle.bx_layout.specs.declared.block.Block.{Block}
use Rattle.bx_records.specs.Drafts.{Changed}
use Rattle.bx_page.specs.Contents.{Contents, size, with_value}
use Rattle.bx_truth.specs.Chunks.{block_at}
use Rattle.bx_views.specs.Truths.{Held}
use Rattle.bx_blink.specs.declared.error.BlinkError.{BlinkError}
use Rattle.bx_blink.specs.declared.error.BlinkError.TheVariants.{Need, Stale, Full, NoRoom, Absent, Present, OutOfMemory, Crowded}
use Rattle.bx_blink.specs.declared.steps.End.{End}
use Rattle.bx_blink.specs.declared.steps.End.TheVariants.{Needs, Lost, Lands}
use Rattle.bx_blink.specs.Walks.{Reads, Ends, start, most, OnPath}
use Rattle.bx_splits.specs.bx_leaves.specs.Leaves.{IsCrowded, PutsPage}
use Rattle.bx_splits.specs.declared.halves.Halves.{Halves}
use Rattle.bx_splits.specs.Halves.{HalvesAt, half_in}
use Rattle.bx_posts.specs.declared.posting.Posted.{Posted}
use Rattle.bx_posts.specs.declared.posting.Posted.TheVariants.{Put, SplitAlone}
use Rattle.bx_posts.specs.declared.separators.Separator.{Separator}

-- how the walk to a key's page of a level ends, which is asked for exclusively, and its path
abbrev pub ParentEnds : Reads → ℕ → ℕ → List ℕ → End → Type 0
ParentEnds reads root level key = Ends reads level Exclusive key most (start root Exclusive)

abbrev pub OnParentPath : Reads → ℕ → ℕ → List ℕ → ℕ → Mode → Type 0
OnParentPath reads root level key = OnPath reads level Exclusive key most (start root Exclusive)

-- the walk lands at a page, which is held exclusively
pub record IsParentAt (reads : Reads) (root level : ℕ) (key : List ℕ) (handle : ℕ) (page : Contents) : Type 0 where
  pub end : ParentEnds reads root level key (Lands handle page)
  pub block : Block
  pub held : reads.held (block_at handle) Exclusive ≡ Some block

-- it lands at one that isn't
pub record IsParentShort (reads : Reads) (root level : ℕ) (key : List ℕ) (at : ℕ) (mode : Mode) : Type 0 where
  pub handle : ℕ
  pub page : Contents
  pub end : ParentEnds reads root level key (Lands handle page)
  pub at_is : at ≡ block_at handle
  pub mode_is : mode ≡ Exclusive
  pub none : reads.held (block_at handle) Exclusive ≡ None

-- a block is needed on the way to the parent, or is the parent's
abbrev pub NeedsParent : Reads → ℕ → ℕ → List ℕ → ℕ → Mode → Type 0
NeedsParent reads root level key at mode = ParentEnds reads root level key (Needs at mode) ⊎ IsParentShort reads root level key at mode

-- the page of a level in whose range a key is, to be changed
abbrev pub ParentOf : Reads → ℕ → ℕ → List ℕ → Result (ℕ × Contents) BlinkError → Type 0
ParentOf reads root level key (Ok parent) = IsParentAt reads root level key parent.0 parent.1
ParentOf reads root level key (Err (Need at mode)) = NeedsParent reads root level key at mode
ParentOf reads root level key (Err Stale) = ParentEnds reads root level key Lost
ParentOf reads root level key (Err OutOfMemory) = Unit {0}
ParentOf reads root level key (Err (Full spare)) = ⊥
ParentOf reads root level key (Err (NoRoom leaf)) = ⊥
ParentOf reads root level key (Err Absent) = ⊥
ParentOf reads root level key (Err Present) = ⊥
ParentOf reads root level key (Err Crowded) = ⊥

-- a page with a separator
abbrev pub with_separator : Contents → Separator → Contents
with_separator page separator = with_value page separator.key (to_be_bytes w64 separator.child)

-- What comes of putting a separator into a page: a page with no room for it stays as it is.
abbrev pub PutsAt : List Changed → List Changed → ℕ → Contents → Separator → Result Posted BlinkError → Type 0
PutsAt old new handle page separator (Ok Put) = PutsPage old new handle (with_separator page separator)
PutsAt old new handle page separator (Ok SplitAlone) = (new ≡ old) × (4096 < size (with_separator page separator))
PutsAt old new handle page separator (Err Crowded) = (size (with_separator page separator) ≤ 4096) × IsCrowded old (block_at handle)
PutsAt old new handle page separator (Err OutOfMemory) = Unit {0}
PutsAt old new handle page separator (Err (Need at mode)) = ⊥
PutsAt old new handle page separator (Err Stale) = ⊥
PutsAt old new handle page separator (Err (Full spare)) = ⊥
PutsAt old new handle page separator (Err (NoRoom leaf)) = ⊥
PutsAt old new handle page separator (Err Absent) = ⊥
PutsAt old new handle page separator (Err Present) = ⊥

-- the parent's halves are put, and the separator into the half in whose range its key is
pub record PutsInHalf (held : Held) (old new : List Changed) (root handle : ℕ) (page : Contents) (separator : Separator) (near areas : ℕ) (result : Result Posted BlinkError) : Type 0 where
  pub halves : Halves
  pub mid : List Changed
  pub splits : HalvesAt held old mid root handle page near areas (Ok halves)
  pub puts : PutsAt mid new (half_in halves separator.key).0 (half_in halves separator.key).1 separator result

-- What comes of putting a separator into its parent. A parent that has less left than two greatest entries take, which are 544 bytes,
-- is split first, and where its half has no room for the separator it is split alone.
abbrev pub PutsInParent : Held → List Changed → List Changed → ℕ → ℕ → Contents → Separator → ℕ → ℕ → Result Posted BlinkError → Type 0
PutsInParent held old new root handle page separator near areas (Ok Put) =
    ((size page + 544 ≤ 4096) × PutsAt old new handle page separator (Ok Put)) ⊎ ((4096 < size page + 544) × PutsInHalf held old new root handle page separator near areas (Ok Put))
PutsInParent held old new root handle page separator near areas (Ok SplitAlone) = (4096 < size page + 544) × PutsInHalf held old new root handle page separator near areas (Ok SplitAlone)
PutsInParent held old new root handle page separator near areas (Err e) =
    ((size page + 544 ≤ 4096) × PutsAt old old handle page separator (Err e))
    ⊎ ((4096 < size page + 544) × (HalvesAt held old old root handle page near areas (Err e) ⊎ PutsInHalf held old old root handle page separator near areas (Err e)))
