-- What a file tree asks of each of its files.
use Rattle.std.specs.Prelude.{◌≡◌, ◌≢◌, ℕ, ◌<◌, ◌≤◌, ◌⊎◌, true, List, Contains, Some}
use Rattle.bx_audit_links.specs.Children.{HasChildren, IsWrongIn}
use Rattle.bx_audit_links.specs.Reached.{IsFirstLost}
use Rattle.bx_model.specs.FileTrees.{HasEntries, HasLinks, links_to}
use Rattle.bx_model.specs.declared.tree.Tree.{Tree}
use Rattle.bx_tree_files.specs.declared.file.Body.{Body}
use Rattle.bx_tree_files.specs.declared.file.Body.TheVariants.{Names}
use Rattle.bx_tree_files.specs.declared.file.File.{File}
use Rattle.bx_tree_files.specs.declared.file.Name.{Name}
use Rattle.bx_tree_files.specs.Files.{file_at, is_directory}

-- Its entries are right, its links are counted; an entry names it unless it is the root, and at most one where it is a directory.
pub record IsRight (files : List File) (root : ℕ) (file : File) : Type 0 where
  pub entries : HasEntries files file.handle file.body
  pub links : HasLinks files file file.body
  pub named : file.handle ≢ root → 1 ≤ links_to files file.handle
  pub once : is_directory file ≡ true → links_to files file.handle ≤ 1

-- the body is that of a directory with this parent
pub record NamesItself (body : Body) (root : ℕ) : Type 0 where
  pub next : ℕ
  pub names : List Name
  pub is : body ≡ Names root next names

-- the handle is that of a directory that is its own parent
pub record IsOwnParent (files : List File) (root : ℕ) : Type 0 where
  pub file : File
  pub there : file_at files root ≡ Some file
  pub itself : NamesItself file.body root

-- the root is a directory that is its own parent, and no entry names it
abbrev pub IsRootRight : Tree → Type 0
IsRootRight tree = IsOwnParent tree.files tree.root × (links_to tree.files tree.root ≡ 0)

-- a file with the handle isn't as a file tree asks, and is the first such file in the order of their handles
pub record IsWrongOf (files : List File) (root handle : ℕ) : Type 0 where
  pub file : File
  pub there : Contains files file
  pub handle_is : file.handle ≡ handle
  pub wrong : IsRight files root file → ⊥
  pub first : (earlier : File) → Contains files earlier → earlier.handle < handle → IsRight files root earlier

-- What is wrong with the file that a handle is of: it is the root, and isn't a directory that is its own parent, or is named; or the root is
-- right, and it is the first that isn't as a file tree asks; or all files are, each for itself, and it is the first directory to which no
-- way from the root leads.
abbrev pub IsWrong : Tree → ℕ → Type 0
IsWrong tree handle =
    ((handle ≡ tree.root) × (IsOwnParent tree.files tree.root → links_to tree.files tree.root ≡ 0 → ⊥))
    ⊎ (IsRootRight tree × (IsWrongOf tree.files tree.root handle
    ⊎ (IsFirstLost tree.files tree.root handle × ((file : File) → Contains tree.files file → IsRight tree.files tree.root file))))

-- What is to blame for a file that is wrong: what an entry of it names that is no child of it, or else the file itself.
abbrev pub IsToBlame : Tree → ℕ → Type 0
IsToBlame tree handle = ((directory : ℕ) × IsWrong tree directory × IsWrongIn tree.files directory handle) ⊎ (IsWrong tree handle × HasChildren tree.files handle)
