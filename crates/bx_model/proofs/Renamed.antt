-- RENAME as the two directories and the move between them.
use Rattle.std.proofs.Common.{◌≡◌, ℕ, Bool, true, false, List, Option, Some, None, refl}
use Rattle.std.specs.Prelude.{not, Result, Ok}
use Rattle.bx_model.specs.declared.call.Call.{Call}
use Rattle.bx_tree_files.specs.declared.file.File.{File}
use Rattle.bx_model.specs.declared.permissions.Want.TheVariants as want
use Rattle.bx_model.specs.declared.status.TheConstants.{ACCES, NOTDIR, STALE}
use Rattle.bx_model.specs.declared.tree.Tree.{Tree}
use Rattle.bx_tree_files.specs.Entries.{is_bad}
use Rattle.bx_tree_files.specs.Files.{is_directory}
use Rattle.bx_model.specs.Moves.{move_between, move_places}
use Rattle.bx_model.specs.Permissions.{may}
use Rattle.bx_model.specs.Reading.{named_file}
use Rattle.bx_model.specs.Renaming.{rename}
use Rattle.bx_model.specs.Steps.{must, refuse, ◌>>=◌, ◌>>◌}
use Rattle.bx_tree_files.specs.Times.{Time}

-- six tests before the rest
abbrev six : {A : Type 0} → Bool → Bool → Bool → Bool → Bool → Bool → Result A ℕ → Result A ℕ
six a b c d e f rest = do
  refuse a NOTDIR
  refuse b NOTDIR
  refuse c ACCES
  refuse d ACCES
  refuse e ACCES
  refuse f ACCES
  rest

six_then : {A B : Type 0} (a b c d e f : Bool) (found : A) (next : A → Result B ℕ) → six a b c d e f (next found) ≡ (six a b c d e f (Ok found) >>= next)
six_then true b c d e f found next = refl
six_then false true c d e f found next = refl
six_then false false true d e f found next = refl
six_then false false false true e f found next = refl
six_then false false false false true f found next = refl
six_then false false false false false true found next = refl
six_then false false false false false false found next = refl

-- those of the two directories and the names
abbrev tests : {A : Type 0} → Call → List ℕ → List ℕ → File → File → Result A ℕ → Result A ℕ
tests call name new_name source target rest =
    six (not (is_directory source)) (not (is_directory target)) (is_bad name) (is_bad new_name) (not (may call source want.Change)) (not (may call target want.Change)) rest

pub rename_in_two : (tree : Tree) (call : Call) (from name to new_name : List ℕ) (now : Time) (spare : ℕ)
    → rename tree call from name to new_name now spare
    ≡ (move_places tree call from name to new_name >>= λ (found : File × File). move_between tree found.0 name found.1 new_name now spare)
rename_in_two tree call from name to new_name now spare = by (named_file tree from) (named_file tree to)
  where
    by : (one other : Option File) → (must one STALE >>= λ source. must other STALE >>= λ target. tests call name new_name source target (move_between tree source name target new_name now spare))
        ≡ ((must one STALE >>= λ source. must other STALE >>= λ target. tests call name new_name source target (Ok (source, target))) >>= λ (found : File × File). move_between tree found.0 name found.1 new_name now spare)
    by None other = refl
    by (Some source) None = refl
    by (Some source) (Some target) =
        six_then (not (is_directory source)) (not (is_directory target)) (is_bad name) (is_bad new_name) (not (may call source want.Change)) (not (may call target want.Change)) (source, target)
        (λ (found : File × File). move_between tree found.0 name found.1 new_name now spare)
