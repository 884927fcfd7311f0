-- CREATE: the directory in which it looks for the name, and the search for it.
use Rattle.std.specs.Prelude.{◌≡◌, ℕ, false, List, Option, Some, None, Result, Ok, Err}
use Rattle.bx_entries.specs.Finding.{IsDirectoryOf}
use Rattle.bx_files.specs.Paths.{LandsAtValue}
use Rattle.bx_inodes.specs.declared.stop.Stop.{Stop}
use Rattle.bx_inodes.specs.declared.stop.Stop.TheVariants.{Need, Inner, Status, OutOfMemory}
use Rattle.bx_layout.specs.declared.inode.Inode.{Inode}
use Rattle.bx_model.specs.declared.tree.Tree.{Tree}
use Rattle.bx_tree_files.specs.Entries.{entry_named, is_bad}
use Rattle.bx_tree_files.specs.declared.file.Name.{Name}
use Rattle.bx_truth.specs.Keys.{name_key, name_value}
use Rattle.bx_views.specs.Truths.{Held, Hints, Truth}

-- ---- the directory

-- a directory of a file tree, by its inode, in which a name that isn't bad is looked for
pub record IsSearched (volume areas : ℕ) (held : Held) (hints : Hints) (truth : Truth) (tree : Tree) (handle : ℕ) (inode : Inode) (name : List ℕ) : Type 0 where
  pub directory : IsDirectoryOf volume areas held hints truth tree handle inode
  pub good : is_bad name ≡ false

-- ---- the name

-- an entry of a list has a name, and names a handle
pub record Names (names : List Name) (name : List ℕ) (handle : ℕ) : Type 0 where
  pub number : ℕ
  pub is : entry_named names name ≡ Some (record { number = number; name = name; handle = handle })

-- what looking for a name answers, by the list of entries: the handle that its entry names, if there is one
abbrev pub FoundIn : List Name → List ℕ → Result (Option ℕ) Stop → Type 0
FoundIn names name (Ok None) = entry_named names name ≡ None
FoundIn names name (Ok (Some handle)) = Names names name handle
FoundIn names name (Err (Status status)) = ⊥
FoundIn names name (Err (Need at mode)) = Unit {0}
FoundIn names name (Err (Inner blocks)) = ⊥
FoundIn names name (Err OutOfMemory) = Unit {0}

-- a search finds an entry of the name that names a handle
pub record FindsEntry (held : Held) (hints : Hints) (root : ℕ) (name : List ℕ) (handle : ℕ) : Type 0 where
  pub number : ℕ
  pub found : LandsAtValue held hints root (name_key name) (Some (name_value number handle))
