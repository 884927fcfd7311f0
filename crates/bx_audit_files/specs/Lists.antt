-- The entries of directories as files have them.
use Rattle.std.specs.Prelude.{◌≡◌, ◌≢◌, ℕ, ◌<◌, ◌≤◌, List, AllPairs, None}
use Rattle.bx_tree_files.specs.declared.file.Name.{Name}
use Rattle.bx_tree_files.specs.Entries.{AreBelow, entry_named}

-- an entry may come behind others: its number isn't below the least one, and is below the next one, and its name isn't theirs
pub record CanFollow (names : List Name) (least next : ℕ) (name : Name) : Type 0 where
  pub number : least ≤ name.number
  pub below : name.number < next
  pub apart : entry_named names name.name ≡ None

-- entries in the order of their numbers, which are below the next one, with different names
pub record AreListed (next : ℕ) (names : List Name) : Type 0 where
  pub rise : AllPairs (λ a b. a.number < b.number) names
  pub apart : AllPairs (λ a b. a.name ≢ b.name) names
  pub below : AreBelow next names
