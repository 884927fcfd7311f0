-- Ways down a tree, from entry to entry.
use Rattle.std.specs.Prelude.{◌≡◌, ℕ, List, [], ◌∷◌, Contains, Some}
use Rattle.bx_model.specs.bx_tree_files.specs.declared.file.File.{File}
use Rattle.bx_model.specs.bx_tree_files.specs.declared.file.Name.{Name}
use Rattle.bx_model.specs.bx_tree_files.specs.Files.{file_at}
use Rattle.bx_model.specs.bx_tree_files.specs.Names.{names_of}

-- a file is in a directory: an entry of the directory names it
pub record IsIn (files : List File) (directory handle : ℕ) : Type 0 where
  pub file : File
  pub there : file_at files directory ≡ Some file
  pub entry : Name
  pub contains : Contains (names_of file.body) entry
  pub names_it : entry.handle ≡ handle

-- a way down from a directory: each file on it is in the one before, and the last is in the last of them
abbrev pub LeadsDown : List File → ℕ → List ℕ → ℕ → Type 0
LeadsDown files directory [] last = IsIn files directory last
LeadsDown files directory (handle ∷ way) last = IsIn files directory handle × LeadsDown files handle way last
