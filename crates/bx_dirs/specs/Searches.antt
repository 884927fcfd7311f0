-- What searches in directories answer: by how the search in the tree ends, on any content; and by the list of entries.
use Rattle.std.specs.Prelude.{◌≡◌, ℕ, ◌⊎◌, List, [], ◌∷◌, Option, Some, None, Result, Ok, Err}
use Rattle.bx_tree_files.specs.declared.file.Name.{Name}
use Rattle.bx_tree_files.specs.Entries.{above, entry_named}
use Rattle.bx_truth.specs.Keys.{name_value, entry_key, entry_value}
use Rattle.bx_leaves.specs.bx_blink.specs.Answers.{LandsWith}
use Rattle.bx_leaves.specs.bx_blink.specs.declared.error.BlinkError.{BlinkError}
use Rattle.bx_leaves.specs.bx_blink.specs.declared.error.BlinkError.TheVariants.{Need, Stale, Full, NoRoom, Absent, Present, OutOfMemory, Crowded}
use Rattle.bx_leaves.specs.bx_blink.specs.declared.steps.End.{End}
use Rattle.bx_leaves.specs.bx_blink.specs.declared.steps.End.TheVariants.{Needs, Lost}
use Rattle.bx_dirs.specs.Entries.{IsNoPlace, IsNoNumbered}

-- What looking a name up answers, by the list of entries: the number and the handle of the one that has it. In a directory it is never lost.
abbrev pub LooksUpIn : List Name → List ℕ → Result (ℕ × ℕ) BlinkError → Type 0
LooksUpIn names name (Ok found) = entry_named names name ≡ Some (record { number = found.0; name = name; handle = found.1 })
LooksUpIn names name (Err Absent) = entry_named names name ≡ None
LooksUpIn names name (Err (Need at mode)) = Unit {0}
LooksUpIn names name (Err OutOfMemory) = Unit {0}
LooksUpIn names name (Err Stale) = ⊥
LooksUpIn names name (Err (Full spare)) = ⊥
LooksUpIn names name (Err (NoRoom leaf)) = ⊥
LooksUpIn names name (Err Present) = ⊥
LooksUpIn names name (Err Crowded) = ⊥

-- a walk is lost, or ends at a page that has a value for a key which is none of a name
abbrev pub LosesName : (End → Type 0) → List ℕ → Type 0
LosesName E key = E Lost ⊎ ((value : List ℕ) × LandsWith E key (Some value) × IsNoPlace value)

-- What it answers, by how the walk to the name's key ends.
abbrev pub LooksUpAt : (End → Type 0) → List ℕ → Result (ℕ × ℕ) BlinkError → Type 0
LooksUpAt E key (Ok found) = LandsWith E key (Some (name_value found.0 found.1))
LooksUpAt E key (Err Absent) = LandsWith E key None
LooksUpAt E key (Err (Need at mode)) = E (Needs at mode)
LooksUpAt E key (Err Stale) = LosesName E key
LooksUpAt E key (Err OutOfMemory) = Unit {0}
LooksUpAt E key (Err (Full spare)) = ⊥
LooksUpAt E key (Err (NoRoom leaf)) = ⊥
LooksUpAt E key (Err Present) = ⊥
LooksUpAt E key (Err Crowded) = ⊥

-- What looking for the entry behind a number answers, by the list of entries: the first one with a greater number, behind which those come
-- whose numbers are greater still. In a directory it is never lost.
abbrev pub FollowsIn : List Name → ℕ → Result (Option Name) BlinkError → Type 0
FollowsIn names number (Ok (Some entry)) = above number names ≡ entry ∷ above entry.number names
FollowsIn names number (Ok None) = above number names ≡ []
FollowsIn names number (Err (Need at mode)) = Unit {0}
FollowsIn names number (Err OutOfMemory) = Unit {0}
FollowsIn names number (Err Stale) = ⊥
FollowsIn names number (Err Absent) = ⊥
FollowsIn names number (Err (Full spare)) = ⊥
FollowsIn names number (Err (NoRoom leaf)) = ⊥
FollowsIn names number (Err Present) = ⊥
FollowsIn names number (Err Crowded) = ⊥

-- the search in the tree is lost, or finds an entry that is none by a number
abbrev pub LosesNumber : (Result (Option (List ℕ × List ℕ)) BlinkError → Type 0) → Type 0
LosesNumber Next = Next (Err Stale) ⊎ ((key value : List ℕ) × Next (Ok (Some (key, value))) × IsNoNumbered key value)

-- What it answers, by what `next` answers of the key behind the number's.
abbrev pub FollowsAt : (Result (Option (List ℕ × List ℕ)) BlinkError → Type 0) → Result (Option Name) BlinkError → Type 0
FollowsAt Next (Ok (Some entry)) = Next (Ok (Some (entry_key entry.number, entry_value entry.handle entry.name)))
FollowsAt Next (Ok None) = Next (Ok None)
FollowsAt Next (Err (Need at mode)) = Next (Err (Need at mode))
FollowsAt Next (Err Stale) = LosesNumber Next
FollowsAt Next (Err OutOfMemory) = Unit {0}
FollowsAt Next (Err Absent) = ⊥
FollowsAt Next (Err (Full spare)) = ⊥
FollowsAt Next (Err (NoRoom leaf)) = ⊥
FollowsAt Next (Err Present) = ⊥
FollowsAt Next (Err Crowded) = ⊥
