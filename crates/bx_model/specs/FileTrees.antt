-- What every file tree is: what calls keep, and what a walk from the root relies on.
use Rattle.std.specs.Prelude.{◌≡◌, ◌≢◌, ℕ, ◌+◌, ◌<◌, ◌≤◌, ◌==◌, Bool, true, false, List, count_by, sum_by, Contains, AllPairs, Option, Some, None}
use Rattle.bx_tree_files.specs.declared.file.Body.{Body}
use Rattle.bx_tree_files.specs.declared.file.Body.TheVariants.{Bytes, Path, Names}
use Rattle.bx_tree_files.specs.declared.file.File.{File}
use Rattle.bx_tree_files.specs.declared.file.Name.{Name}
use Rattle.bx_model.specs.declared.tree.Tree.{Tree}
use Rattle.bx_tree_files.specs.Files.{IsFile, file_at, is_directory}
use Rattle.bx_tree_files.specs.Entries.{is_bad}
use Rattle.bx_tree_files.specs.Names.{names_of}

-- whether a handle is that of a directory
abbrev pub is_directory_in : Option File → Bool
is_directory_in None = false
is_directory_in (Some file) = is_directory file

abbrev pub is_directory_at : List File → ℕ → Bool
is_directory_at files handle = is_directory_in (file_at files handle)

-- how many entries name a handle
abbrev pub links_to : List File → ℕ → ℕ
links_to files handle = sum_by (λ file. count_by (λ entry. entry.handle == handle) (names_of file.body)) files

-- A file has as many links as entries name it; a directory has 2, and one for each of its directories.
abbrev pub HasLinks : List File → File → Body → Type 0
HasLinks files file (Bytes bytes) = file.nlink ≡ links_to files file.handle
HasLinks files file (Path path) = file.nlink ≡ links_to files file.handle
HasLinks files file (Names parent next names) = file.nlink ≡ 2 + count_by (λ entry. is_directory_at files entry.handle) names

-- An entry has a number from 3 on below the next one, and a name that isn't bad. It names a file that is there; a
-- directory that it names has this one as its parent.
pub record IsEntryOf (files : List File) (directory next : ℕ) (entry : Name) : Type 0 where
  pub least : 3 ≤ entry.number
  pub number : entry.number < next
  pub name : is_bad entry.name ≡ false
  pub file : File
  pub there : file_at files entry.handle ≡ Some file
  pub parent : (parent others : ℕ) (names : List Name) → file.body ≡ Names parent others names → parent ≡ directory

-- the entries of a directory: their numbers rise, and no name stands twice
pub record AreEntriesOf (files : List File) (directory next : ℕ) (names : List Name) : Type 0 where
  pub each : (entry : Name) → Contains names entry → IsEntryOf files directory next entry
  pub rise : AllPairs (λ entry later. entry.number < later.number) names
  pub apart : AllPairs (λ entry later. entry.name ≢ later.name) names

abbrev pub HasEntries : List File → ℕ → Body → Type 0
HasEntries files handle (Bytes bytes) = Unit {0}
HasEntries files handle (Path path) = Unit {0}
HasEntries files handle (Names parent next names) = AreEntriesOf files handle next names

-- Handles rise, so that no two files have one. The root is a directory, its own parent, and no entry names it; each
-- other file is named, a directory by one entry. Each directory is nearer to the root than those in it, so that none is
-- below itself. The handles of all files were given out.
pub record IsFileTree (tree : Tree) : Type 0 where
  pub rise : AllPairs (λ file later. file.handle < later.handle) tree.files
  pub is_file : (file : File) → Contains tree.files file → IsFile file
  pub root : (file : File) × (next : ℕ) × (names : List Name) × (file_at tree.files tree.root ≡ Some file) × (file.body ≡ Names tree.root next names)
  pub entries : (handle : ℕ) (file : File) → file_at tree.files handle ≡ Some file → HasEntries tree.files handle file.body
  pub links : (handle : ℕ) (file : File) → file_at tree.files handle ≡ Some file → HasLinks tree.files file file.body
  pub named : (handle : ℕ) (file : File) → file_at tree.files handle ≡ Some file → handle ≢ tree.root → 1 ≤ links_to tree.files handle
  pub once : (handle : ℕ) (file : File) → file_at tree.files handle ≡ Some file → is_directory file ≡ true → links_to tree.files handle ≤ 1
  pub root_unnamed : links_to tree.files tree.root ≡ 0
  pub depth : ℕ → ℕ
  pub nearer : (handle : ℕ) (file : File) (parent next : ℕ) (names : List Name) → file_at tree.files handle ≡ Some file → file.body ≡ Names parent next names
      → handle ≢ tree.root → depth parent < depth handle
  pub was_given : (handle : ℕ) (file : File) → file_at tree.files handle ≡ Some file → Contains tree.given handle
