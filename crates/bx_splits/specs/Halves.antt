-- What putting the halves of a page answers, on any content.
use Rattle.std.specs.Prelude.{◌≡◌, ◌≢◌, ℕ, ◌⊎◌, if◌then◌else◌, List, Result, Ok, Err}
use Rattle.bx_records.specs.Drafts.{Changed}
use Rattle.bx_page.specs.Contents.{Contents, first_half, other_half}
use Rattle.bx_views.specs.Truths.{Held}
use Rattle.bx_blink.specs.declared.error.BlinkError.{BlinkError}
use Rattle.bx_blink.specs.declared.error.BlinkError.TheVariants.{Need, Stale, Full, NoRoom, Absent, Present, OutOfMemory, Crowded}
use Rattle.bx_blink.specs.Walks.{passes}
use Rattle.bx_leaves.specs.Leaves.{IsCrowded, PutsPage}
use Rattle.bx_truth.specs.Chunks.{block_at}
use Rattle.bx_splits.specs.declared.halves.Halves.{Halves}
use Rattle.bx_splits.specs.Cutting.{CutFails, CutsPage, CutsRoot, PutsTwo, RaiseFails}

-- the halves of a page, where the first is under one handle and the other under another
abbrev pub halves_of : Contents → ℕ → ℕ → Halves
halves_of page left right = record { left = left; first = first_half page right; right = right; other = other_half page }

-- the half in whose range a key of the page is, with its handle: the other one where the key isn't below the first one's high key
abbrev pub half_in : Halves → List ℕ → ℕ × Contents
half_in halves key = if passes halves.first key then (halves.right, halves.other) else (halves.left, halves.first)

-- a page that isn't the root is cut, and these are its halves
pub record CutsInto (held : Held) (old new : List Changed) (handle : ℕ) (page : Contents) (near areas : ℕ) (halves : Halves) : Type 0 where
  pub cuts : CutsPage held old new handle page near areas
  pub halves_are : halves ≡ halves_of page handle cuts.right

-- the root is cut, and these are its halves
pub record RaisesInto (held : Held) (old new : List Changed) (root : ℕ) (page : Contents) (near areas : ℕ) (halves : Halves) : Type 0 where
  pub cuts : CutsRoot held old new root page near areas
  pub halves_are : halves ≡ halves_of page cuts.left cuts.right

-- what putting the halves of a root, and the page above them in its place, answers
abbrev pub PutsThree : List Changed → List Changed → ℕ → Contents → Halves → Result Unit BlinkError → Type 0
PutsThree old new root top halves (Ok done) = (four : List Changed) × PutsTwo old four halves.left halves.first halves.right halves.other (Ok tt) × PutsPage four new root top
PutsThree old new root top halves (Err Crowded) =
    PutsTwo old old halves.left halves.first halves.right halves.other (Err Crowded) ⊎ ((four : List Changed) × PutsTwo old four halves.left halves.first halves.right halves.other (Ok tt) × IsCrowded four (block_at root))
PutsThree old new root top halves (Err OutOfMemory) = Unit {0}
PutsThree old new root top halves (Err (Need at mode)) = ⊥
PutsThree old new root top halves (Err Stale) = ⊥
PutsThree old new root top halves (Err (Full spare)) = ⊥
PutsThree old new root top halves (Err (NoRoom leaf)) = ⊥
PutsThree old new root top halves (Err Absent) = ⊥
PutsThree old new root top halves (Err Present) = ⊥

abbrev pub CutAt : Held → List Changed → List Changed → ℕ → Contents → ℕ → ℕ → Result Halves BlinkError → Type 0
CutAt held old new handle page near areas (Ok halves) = CutsInto held old new handle page near areas halves
CutAt held old new handle page near areas (Err e) = CutFails held old handle page near areas e

abbrev pub RaiseAt : Held → List Changed → List Changed → ℕ → Contents → ℕ → ℕ → Result Halves BlinkError → Type 0
RaiseAt held old new root page near areas (Ok halves) = RaisesInto held old new root page near areas halves
RaiseAt held old new root page near areas (Err e) = RaiseFails held old root page near areas e

-- What putting a page's halves answers: as of the root, or as of another page.
abbrev pub HalvesAt : Held → List Changed → List Changed → ℕ → ℕ → Contents → ℕ → ℕ → Result Halves BlinkError → Type 0
HalvesAt held old new root handle page near areas result =
    ((handle ≡ root) × RaiseAt held old new root page near areas result) ⊎ ((handle ≢ root) × CutAt held old new handle page near areas result)
