-- The first piece of a file in a range, and how it is looked for.
use Rattle.std.specs.Prelude.{◌≡◌, ◌↔◌, ℕ, ◌^◌, ◌<◌, ◌≤◌, List, Option, Some, None, Result, Ok, Err}
use Rattle.bx_inodes.specs.declared.stop.Stop.{Stop}
use Rattle.bx_inodes.specs.declared.stop.Stop.TheVariants.{Need, Inner, Status, OutOfMemory}
use Rattle.bx_page.specs.declared.entry.Entry.{Entry}
use Rattle.bx_page.specs.Contents.{value_of}
use Rattle.bx_page.specs.Keys.{IsBelow}
use Rattle.bx_truth.specs.Keys.{content_key}
use Rattle.bx_sizes.specs.Clearing.{HasNone}

-- a piece has this index
pub record HasPiece (map : List Entry) (index : ℕ) : Type 0 where
  pub value : List ℕ
  pub is : value_of map (content_key index) ≡ Some value

-- of the pieces with an index from one on, below another, this one is the first
pub record IsFirstPiece (map : List Entry) (from end index : ℕ) : Type 0 where
  pub above : from ≤ index
  pub below : index < end
  pub there : HasPiece map index
  pub before : HasNone map from index

-- what looking for the first piece answers, by the map of the file's tree
abbrev pub FindsFirst : List Entry → ℕ → ℕ → Result (Option ℕ) Stop → Type 0
FindsFirst map from end (Ok (Some index)) = IsFirstPiece map from end index
FindsFirst map from end (Ok None) = HasNone map from end
FindsFirst map from end (Err (Need at mode)) = Unit {0}
FindsFirst map from end (Err (Inner blocks)) = ⊥
FindsFirst map from end (Err (Status status)) = ⊥
FindsFirst map from end (Err OutOfMemory) = Unit {0}

-- an index that is answered is in the range
abbrev pub IsWithin : ℕ → ℕ → Result (Option ℕ) Stop → Type 0
IsWithin from end (Ok (Some index)) = (from ≤ index) × (index < end)
IsWithin from end (Ok None) = Unit {0}
IsWithin from end (Err stop) = Unit {0}

-- no piece has an index from one on, below another; and where the two are the same, a piece has it
pub record GoesOnTo (map : List Entry) (at next : ℕ) : Type 0 where
  pub none : HasNone map at next
  pub there : next ≡ at → HasPiece map at

-- the same of what is answered
abbrev pub ClearingGoesOn : List Entry → ℕ → Result ℕ Stop → Type 0
ClearingGoesOn map at (Ok next) = GoesOnTo map at next
ClearingGoesOn map at (Err (Need block mode)) = Unit {0}
ClearingGoesOn map at (Err (Inner blocks)) = ⊥
ClearingGoesOn map at (Err (Status status)) = ⊥
ClearingGoesOn map at (Err OutOfMemory) = Unit {0}

-- the least index of a piece whose key isn't below a key
abbrev pub IsLeastIndex : List ℕ → ℕ → Type 0
IsLeastIndex key least = (index : ℕ) → index < 2 ^ 32 → (IsBelow (content_key index) key ↔ (index < least))
