-- A directory as a list of entries: the tree that has them, and the values of its keys.
use Rattle.std.specs.Prelude.{◌≡◌, ℕ, ◌^◌, ◌<◌, List, [], ◌∷◌, ◌++◌}
use Rattle.bx_page.specs.declared.entry.Entry.{Entry}
use Rattle.bx_records.specs.Drafts.{Changed}
use Rattle.bx_tree_files.specs.declared.file.Name.{Name}
use Rattle.bx_truth.specs.Keys.{name_value, entry_key, entry_value}
use Rattle.bx_truth.specs.PageTrees.{PageTree, map_of}
use Rattle.bx_truth.specs.Stored.{AreNames}
use Rattle.bx_views.specs.Truths.{Truth, Held, Hints}
use Rattle.bx_leaves.specs.bx_blink.specs.Hints.{Under}

-- What calls on a directory rest on, for a truth: the tree under its root has these entries, by their numbers and by their names.
pub record HasEntries (areas : ℕ) (held : Held) (hints : Hints) (truth : Truth) (draft : List Changed) (root : ℕ) (names : List Name) : Type 0 where
  pub tree : PageTree
  pub under : Under areas held hints truth draft root tree
  pub entries : AreNames (map_of tree) names

-- the least key above that of a number
abbrev pub key_behind : ℕ → List ℕ
key_behind number = entry_key number ++ 0 ∷ []

-- an entry as it stands in the tree by its number
abbrev pub by_number : Name → Entry
by_number name = record { key = entry_key name.number; value = entry_value name.handle name.name }

-- the numbers and the handles of entries fit into their words
abbrev pub DoFit : List Name → Type 0
DoFit [] = Unit {0}
DoFit (name ∷ names) = (name.number < 2 ^ 32) × (name.handle < 2 ^ 64) × DoFit names

-- the value is none that a name's key has
abbrev pub IsNoPlace : List ℕ → Type 0
IsNoPlace value = (number handle : ℕ) → number < 2 ^ 32 → handle < 2 ^ 64 → value ≡ name_value number handle → ⊥

-- the key and the value are none of an entry by its number
abbrev pub IsNoNumbered : List ℕ → List ℕ → Type 0
IsNoNumbered key value = (name : Name) → name.number < 2 ^ 32 → name.handle < 2 ^ 64 → key ≡ entry_key name.number → value ≡ entry_value name.handle name.name → ⊥
