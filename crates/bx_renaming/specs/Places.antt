-- The directories between which RENAME moves a file: what finding them answers.
use Rattle.std.specs.Prelude.{◌≡◌, ℕ, ◌&&◌, ◌||◌, not, if◌then◌else◌, List, Option, None, Some, Result, Ok, Err}
use Rattle.bx_inodes.specs.Inodes.{IsInodeOf}
use Rattle.bx_inodes.specs.declared.stop.Stop.{Stop}
use Rattle.bx_inodes.specs.declared.stop.Stop.TheVariants.{Need, Inner, Status, OutOfMemory}
use Rattle.bx_model.specs.declared.call.Call.{Call}
use Rattle.bx_model.specs.declared.permissions.Want.TheVariants as want
use Rattle.bx_model.specs.declared.tree.Tree.{Tree}
use Rattle.bx_model.specs.Permissions.{may}
use Rattle.bx_model.specs.Steps.{must, refuse, ◌>>=◌, ◌>>◌}
use Rattle.bx_tree_files.specs.declared.file.File.{File}
use Rattle.bx_tree_files.specs.Entries.{is_bad}
use Rattle.bx_tree_files.specs.Files.{is_directory}
use Rattle.bx_views.specs.Truths.{Truth}
use Rattle.bx_renaming.specs.declared.places.Places.{Places}

-- the error of two files and two names, between which a caller moves: NOTDIR (20) where one of them is no directory, ACCES (13) of a bad name and
-- where the caller may not change one
abbrev pub place_error : Call → List ℕ → List ℕ → File → File → Option ℕ
place_error call name new_name source target =
    if is_directory source && is_directory target then (if is_bad name || is_bad new_name then Some 13
    else if may call source want.Change && may call target want.Change then None else Some 13) else Some 20

-- what finding the second directory comes to, where the first file is there: 70 is STALE
abbrev pub places_from : Call → List ℕ → List ℕ → File → Option File → Result (File × File) ℕ
places_from call name new_name source found = do
  target ← must found 70
  refuse (not (is_directory source)) 20
  refuse (not (is_directory target)) 20
  refuse (is_bad name) 13
  refuse (is_bad new_name) 13
  refuse (not (may call source want.Change)) 13
  refuse (not (may call target want.Change)) 13
  Ok (source, target)

-- both directories are there, by their inodes
pub record ArePlaces (areas : ℕ) (truth : Truth) (tree : Tree) (places : Places) (outcome : Result (File × File) ℕ) : Type 0 where
  pub source : IsInodeOf areas truth tree places.source.handle places.source.inode
  pub target : IsInodeOf areas truth tree places.target.handle places.target.inode
  pub comes_to : outcome ≡ Ok (source.file, target.file)

-- what finding them answers
abbrev pub PlacesFor : ℕ → Truth → Tree → Result (File × File) ℕ → Result Places Stop → Type 0
PlacesFor areas truth tree outcome (Ok places) = ArePlaces areas truth tree places outcome
PlacesFor areas truth tree outcome (Err (Status status)) = outcome ≡ Err status
PlacesFor areas truth tree outcome (Err (Need at mode)) = Unit {0}
PlacesFor areas truth tree outcome (Err (Inner blocks)) = ⊥
PlacesFor areas truth tree outcome (Err OutOfMemory) = Unit {0}
