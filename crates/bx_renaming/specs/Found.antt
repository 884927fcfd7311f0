-- What RENAME finds in the two directories, and the errors of the move.
use Rattle.std.specs.Prelude.{◌≡◌, ℕ, ◌⊎◌, List, Option, None, Some, Result, Ok, Err}
use Rattle.bx_base.specs.declared.names.Mode.{Mode}
use Rattle.bx_linking.specs.bx_entries.specs.Finding.{IsOwnBlock}
use Rattle.bx_linking.specs.bx_entries.specs.declared.taking.Known.{Known}
use Rattle.bx_changes.specs.bx_files.specs.Paths.{LandsAtValue, OnSearch}
use Rattle.bx_inodes.specs.Inodes.{IsInodeOf}
use Rattle.bx_inodes.specs.declared.stop.Stop.{Stop}
use Rattle.bx_inodes.specs.declared.stop.Stop.TheVariants.{Need, Inner, Status, OutOfMemory}
use Rattle.bx_model.specs.declared.tree.Tree.{Tree}
use Rattle.bx_model.specs.Renaming.{file_of_entry}
use Rattle.bx_model.specs.Steps.{must, ◌>>=◌}
use Rattle.bx_tree_files.specs.declared.file.File.{File}
use Rattle.bx_tree_files.specs.declared.file.Name.{Name}
use Rattle.bx_tree_files.specs.Entries.{entry_named}
use Rattle.bx_tree_files.specs.Files.{file_at}
use Rattle.bx_truth.specs.Keys.{name_key, name_value}
use Rattle.bx_views.specs.Truths.{Held, Hints, Truth}

-- the entry of a name and the file that it names: 2 is NOENT, 70 STALE
abbrev pub moved_in : Tree → List Name → List ℕ → Result File ℕ
moved_in tree names name = must (entry_named names name) 2 >>= (λ entry. must (file_at tree.files entry.handle) 70)

-- it is there, by its number and its inode
pub record IsMoved (areas : ℕ) (truth : Truth) (tree : Tree) (names : List Name) (name : List ℕ) (number : ℕ) (known : Known) : Type 0 where
  pub found : entry_named names name ≡ Some (record { number = number; name = name; handle = known.handle })
  pub at : IsInodeOf areas truth tree known.handle known.inode

abbrev pub MovedFor : ℕ → Truth → Tree → List Name → List ℕ → Result (ℕ × Known) Stop → Type 0
MovedFor areas truth tree names name (Ok found) = IsMoved areas truth tree names name found.0 found.1
MovedFor areas truth tree names name (Err (Status status)) = moved_in tree names name ≡ Err status
MovedFor areas truth tree names name (Err (Need at mode)) = Unit {0}
MovedFor areas truth tree names name (Err (Inner blocks)) = ⊥
MovedFor areas truth tree names name (Err OutOfMemory) = Unit {0}

-- the same of an entry that need not be there
abbrev pub OtherFor : ℕ → Truth → Tree → List Name → List ℕ → Result (Option (ℕ × Known)) Stop → Type 0
OtherFor areas truth tree names name (Ok None) = entry_named names name ≡ None
OtherFor areas truth tree names name (Ok (Some found)) = IsMoved areas truth tree names name found.0 found.1
OtherFor areas truth tree names name (Err (Status status)) = file_of_entry tree (entry_named names name) ≡ Err status
OtherFor areas truth tree names name (Err (Need at mode)) = Unit {0}
OtherFor areas truth tree names name (Err (Inner blocks)) = ⊥
OtherFor areas truth tree names name (Err OutOfMemory) = Unit {0}

-- ---- the path

-- the block of what an entry of a name names, exclusively
pub record OnFoundBlock (held : Held) (hints : Hints) (root : ℕ) (name : List ℕ) (at : ℕ) (mode : Mode) : Type 0 where
  pub number : ℕ
  pub handle : ℕ
  pub found : LandsAtValue held hints root (name_key name) (Some (name_value number handle))
  pub on : IsOwnBlock handle at mode

-- the search for the name, and that
abbrev pub OnEntry : Held → Hints → ℕ → List ℕ → ℕ → Mode → Type 0
OnEntry held hints root name at mode = OnSearch held hints root (name_key name) at mode ⊎ OnFoundBlock held hints root name at mode
