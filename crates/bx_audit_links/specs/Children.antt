-- What entries name: children of their directory.
use Rattle.std.specs.Prelude.{◌≡◌, ℕ, List, Contains, Some}
use Rattle.bx_tree_files.specs.declared.file.Body.{Body}
use Rattle.bx_tree_files.specs.declared.file.Body.TheVariants.{Names}
use Rattle.bx_tree_files.specs.declared.file.File.{File}
use Rattle.bx_tree_files.specs.declared.file.Name.{Name}
use Rattle.bx_tree_files.specs.Files.{file_at}
use Rattle.bx_tree_laws.specs.Ways.{IsIn}

-- a directory has this one as its parent; other files have none
abbrev pub IsUnder : Body → ℕ → Type 0
IsUnder body directory = (parent next : ℕ) (names : List Name) → body ≡ Names parent next names → parent ≡ directory

-- the handle is that of a file that may be in a directory
pub record IsChildOf (files : List File) (directory handle : ℕ) : Type 0 where
  pub file : File
  pub there : file_at files handle ≡ Some file
  pub under : IsUnder file.body directory

-- each of some entries names a child of the directory
abbrev pub HaveChildren : List File → ℕ → List Name → Type 0
HaveChildren files directory names = (entry : Name) → Contains names entry → IsChildOf files directory entry.handle

-- one of them names this handle, which is no child's
pub record IsWrongEntry (files : List File) (directory : ℕ) (names : List Name) (handle : ℕ) : Type 0 where
  pub entry : Name
  pub there : Contains names entry
  pub names_it : entry.handle ≡ handle
  pub wrong : IsChildOf files directory handle → ⊥

-- each entry of a directory names a child of it
abbrev pub HasChildren : List File → ℕ → Type 0
HasChildren files directory = (handle : ℕ) → IsIn files directory handle → IsChildOf files directory handle

-- an entry of the directory names this handle, which is no child's
pub record IsWrongIn (files : List File) (directory handle : ℕ) : Type 0 where
  pub into : IsIn files directory handle
  pub wrong : IsChildOf files directory handle → ⊥
