-- What adding an entry to a directory answers, and taking one out: on any content, by the two changes of its tree; and by the list of entries.
use Rattle.std.specs.Prelude.{◌≡◌, ℕ, ◌≤◌, ◌⊎◌, List, length, None, IsSome, Result, Ok, Err}
use Rattle.bx_base.specs.declared.names.Mode.{Mode}
use Rattle.bx_records.specs.Drafts.{Changed}
use Rattle.bx_tree_files.specs.declared.file.Name.{Name}
use Rattle.bx_tree_files.specs.Entries.{entry_named, with_name, without_name}
use Rattle.bx_truth.specs.Keys.{name_key, name_value, entry_key, entry_value}
use Rattle.bx_views.specs.Truths.{Truth, Held, Hints}
use Rattle.bx_leaves.specs.bx_blink.specs.Walks.{reads_with}
use Rattle.bx_leaves.specs.bx_blink.specs.declared.error.BlinkError.{BlinkError}
use Rattle.bx_leaves.specs.bx_blink.specs.declared.error.BlinkError.TheVariants.{Need, Stale, Full, NoRoom, Absent, Present, OutOfMemory, Crowded}
use Rattle.bx_leaves.specs.Leaves.{InsertsAt, RemovesAt, OnLeafPath}
use Rattle.bx_dirs.specs.Entries.{HasEntries}

-- an entry
abbrev pub entry_of : ℕ → List ℕ → ℕ → Name
entry_of number name handle = record { number = number; name = name; handle = handle }

-- ---- an entry is added

-- what putting it under its name's key answers, and under its number's key
abbrev pub PutsByName : Held → Hints → List Changed → List Changed → ℕ → Name → Result Unit BlinkError → Type 0
PutsByName held hints old new root entry result = InsertsAt held hints old new root (name_key entry.name) (name_value entry.number entry.handle) result

abbrev pub PutsByNumber : Held → Hints → List Changed → List Changed → ℕ → Name → Result Unit BlinkError → Type 0
PutsByNumber held hints old new root entry result = InsertsAt held hints old new root (entry_key entry.number) (entry_value entry.handle entry.name) result

-- It is put under its name, and then this comes of putting it under its number.
pub record ThenByNumber (held : Held) (hints : Hints) (old : List Changed) (root : ℕ) (entry : Name) (Then : List Changed → Type 0) : Type 0 where
  pub mid : List Changed
  pub named : PutsByName held hints old mid root entry (Ok tt)
  pub numbered : Then mid

-- What adding answers: the first error that one of the two puts meets.
abbrev pub AddsAt : Held → Hints → List Changed → List Changed → ℕ → Name → Result Unit BlinkError → Type 0
AddsAt held hints old new root entry (Ok done) = ThenByNumber held hints old root entry (λ mid. PutsByNumber held hints mid new root entry (Ok done))
AddsAt held hints old new root entry (Err error) =
    PutsByName held hints old old root entry (Err error) ⊎ ThenByNumber held hints old root entry (λ mid. PutsByNumber held hints mid mid root entry (Err error))

-- What it answers, by the list of entries, where the entry's number is above all. In a directory it is never lost.
abbrev pub AddsIn : ℕ → Held → Hints → Truth → List Changed → List Changed → ℕ → List Name → Name → Result Unit BlinkError → Type 0
AddsIn areas held hints truth old new root names entry (Ok done) =
    (entry_named names entry.name ≡ None) × HasEntries areas held hints truth new root (with_name names entry.number entry.name entry.handle)
AddsIn areas held hints truth old new root names entry (Err Present) = IsSome (entry_named names entry.name)
AddsIn areas held hints truth old new root names entry (Err (NoRoom leaf)) = entry_named names entry.name ≡ None
AddsIn areas held hints truth old new root names entry (Err Crowded) = (entry_named names entry.name ≡ None) × (15 ≤ length old)
AddsIn areas held hints truth old new root names entry (Err (Need at mode)) = Unit {0}
AddsIn areas held hints truth old new root names entry (Err OutOfMemory) = Unit {0}
AddsIn areas held hints truth old new root names entry (Err Stale) = ⊥
AddsIn areas held hints truth old new root names entry (Err (Full spare)) = ⊥
AddsIn areas held hints truth old new root names entry (Err Absent) = ⊥

-- the path of adding: those of the walks to the two keys' leaves
abbrev pub OnAddPath : Held → Hints → List Changed → ℕ → Name → ℕ → Mode → Type 0
OnAddPath held hints old root entry at mode =
    OnLeafPath (reads_with held hints old) root (name_key entry.name) at mode
    ⊎ ThenByNumber held hints old root entry (λ mid. OnLeafPath (reads_with held hints mid) root (entry_key entry.number) at mode)

-- ---- an entry is taken out

-- it is taken out under its name, and then this comes of taking it out under its number
pub record ThenTakes (held : Held) (hints : Hints) (old : List Changed) (root : ℕ) (name : List ℕ) (Then : List Changed → Type 0) : Type 0 where
  pub mid : List Changed
  pub named : RemovesAt held hints old mid root (name_key name) (Ok tt)
  pub numbered : Then mid

-- What taking an entry out answers, by its number and its name: the first error that one of the two changes meets.
abbrev pub TakesAt : Held → Hints → List Changed → List Changed → ℕ → ℕ → List ℕ → Result Unit BlinkError → Type 0
TakesAt held hints old new root number name (Ok done) = ThenTakes held hints old root name (λ mid. RemovesAt held hints mid new root (entry_key number) (Ok done))
TakesAt held hints old new root number name (Err error) =
    RemovesAt held hints old old root (name_key name) (Err error) ⊎ ThenTakes held hints old root name (λ mid. RemovesAt held hints mid mid root (entry_key number) (Err error))

-- What it answers, by the list of entries, where the one with the name has the number. In a directory it is never lost, and the entry is there.
abbrev pub TakesIn : ℕ → Held → Hints → Truth → List Changed → List Changed → ℕ → List Name → List ℕ → Result Unit BlinkError → Type 0
TakesIn areas held hints truth old new root names name (Ok done) = HasEntries areas held hints truth new root (without_name names name)
TakesIn areas held hints truth old new root names name (Err Crowded) = 15 ≤ length old
TakesIn areas held hints truth old new root names name (Err (Need at mode)) = Unit {0}
TakesIn areas held hints truth old new root names name (Err OutOfMemory) = Unit {0}
TakesIn areas held hints truth old new root names name (Err Absent) = ⊥
TakesIn areas held hints truth old new root names name (Err Present) = ⊥
TakesIn areas held hints truth old new root names name (Err (NoRoom leaf)) = ⊥
TakesIn areas held hints truth old new root names name (Err Stale) = ⊥
TakesIn areas held hints truth old new root names name (Err (Full spare)) = ⊥

abbrev pub OnTakePath : Held → Hints → List Changed → ℕ → ℕ → List ℕ → ℕ → Mode → Type 0
OnTakePath held hints old root number name at mode =
    OnLeafPath (reads_with held hints old) root (name_key name) at mode
    ⊎ ThenTakes held hints old root name (λ mid. OnLeafPath (reads_with held hints mid) root (entry_key number) at mode)
