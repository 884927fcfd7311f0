-- A move, once what it replaces is gone, keeps a file tree.
use Rattle.std.proofs.Common.{◌≡◌, ℕ, Bool, true, false, List, Some, None, refl, ap, ◌∙◌, inl, inr}
use Rattle.std.specs.Prelude.{◌==◌, ◌&&◌, not}
use Rattle.bx_model.specs.bx_tree_files.specs.declared.file.File.{File}
use Rattle.bx_model.specs.bx_tree_files.specs.declared.file.Name.{Name}
use Rattle.bx_model.specs.declared.tree.Tree.{Tree}
use Rattle.bx_model.specs.bx_tree_files.specs.Files.{file_at, is_directory}
use Rattle.bx_model.specs.FileTrees.{IsFileTree}
use Rattle.bx_model.specs.bx_tree_files.specs.Names.{names_of}
use Rattle.bx_model.specs.Renaming.{changes_parent, with_moved}
use Rattle.bx_model.specs.bx_tree_files.specs.Times.{Time}
use Rattle.bx_tree_laws.proofs.Lookups.{SameOr, same_or}
use Rattle.bx_tree_laws.proofs.Relocated.{moved_at_once}
use Rattle.bx_tree_laws.proofs.Renamed.{renamed_keeps}
use Rattle.bx_tree_laws.proofs.Walks.{Cut}
use Rattle.bx_model.specs.bx_tree_files.specs.Entries.{entry_named, is_bad}

-- The move itself, in a tree where the files stand that the call found, and no entry has the new name.
pub record IsReady (tree : Tree) (source target moved : File) (name new_name : List ℕ) : Type 0 where
  pub from : File
  pub from_there : file_at tree.files source.handle ≡ Some from
  pub from_is : is_directory from ≡ true
  pub to : File
  pub to_there : file_at tree.files target.handle ≡ Some to
  pub to_is : is_directory to ≡ true
  pub top : File
  pub top_there : file_at tree.files moved.handle ≡ Some top
  pub top_is : is_directory top ≡ is_directory moved
  pub entry : Name
  pub found : entry_named (names_of from.body) name ≡ Some entry
  pub names_it : entry.handle ≡ moved.handle
  pub absent : entry_named (names_of to.body) new_name ≡ None
  pub cut : changes_parent source target moved ≡ true → Cut tree moved.handle target.handle

pub move_keeps : (tree : Tree) → IsFileTree tree → (source target moved : File) (now : Time) (name new_name : List ℕ) → is_bad new_name ≡ false → IsReady tree source target moved name new_name
    → IsFileTree (with_moved now tree source name target new_name moved (changes_parent source target moved))
move_keeps tree was source target moved now name new_name good r = by (is_directory moved) refl (same_or source.handle target.handle)
  where
    by : (b : Bool) → is_directory moved ≡ b → SameOr source.handle target.handle
        → IsFileTree (with_moved now tree source name target new_name moved (b && not (source.handle == target.handle)))
    by false is which = renamed_keeps tree was r.from r.to r.top source.handle target.handle moved.handle now name new_name r.entry r.from_there r.from_is r.to_there r.to_is r.top_there r.found r.names_it good r.absent
        (inr (r.top_is ∙ is))
    by true is (inl same) = rw same.0 (renamed_keeps tree was r.from r.to r.top source.handle target.handle moved.handle now name new_name r.entry r.from_there r.from_is r.to_there r.to_is r.top_there r.found r.names_it good r.absent
        (inl same.1))
    by true is (inr apart) = rw apart.0 (moved_at_once tree was r.from r.to r.top source.handle target.handle moved.handle now name new_name r.entry r.from_there r.from_is r.to_there r.to_is r.top_there r.found r.names_it good r.absent
        apart.1 (r.top_is ∙ is) (r.cut (ap (λ (b : Bool). b && not (source.handle == target.handle)) is ∙ ap not apart.0)))
