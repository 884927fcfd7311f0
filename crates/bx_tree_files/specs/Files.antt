-- The files of a tree as a list in the order of their handles.
use Rattle.std.specs.Prelude.{◌≡◌, ℕ, ◌<◌, ◌^◌, ◌==◌, nat_lt, Bool, not, ◌&&◌, if◌then◌else◌, List, [], ◌∷◌, map, filter, length, Option, Some, None}
use Rattle.std.specs.List.{list_any}
use Rattle.std.specs.List.Sorted.{IsStrictlySortedBy}
use Rattle.std.specs.Map.{keys_of}
use Rattle.std.specs.Ordering.{nat_cmp}
use Rattle.bx_places.specs.Handles.{fileid, parts_of}
use Rattle.bx_tree_files.specs.declared.file.File.{File}
use Rattle.bx_tree_parts.specs.declared.fileids.Fileids.{Fileids}
use Rattle.bx_tree_parts.specs.Fileids.{has_pair}
use Rattle.bx_tree_files.specs.declared.file.Body.{Body}
use Rattle.bx_tree_files.specs.declared.file.Body.TheVariants.{Bytes, Path, Names}
use Rattle.bx_tree_files.specs.Entries.{AreBelow}

-- a file's size: the bytes of a regular file or of a link's path; a directory counts as one block
abbrev pub size_of : Body → ℕ
size_of (Bytes bytes) = length bytes
size_of (Path path) = length path
size_of (Names parent next names) = 4096

-- the type's number of a body (RFC 1094, section 2.3.2)
abbrev pub kind_of : Body → ℕ
kind_of (Bytes bytes) = 1
kind_of (Names parent next names) = 2
kind_of (Path path) = 5

abbrev pub is_regular : File → Bool
is_regular file = file.kind == 1

abbrev pub is_directory : File → Bool
is_directory file = file.kind == 2

abbrev pub is_link : File → Bool
is_link file = file.kind == 5

-- the next number of a directory is above its number of links and above those of its entries
abbrev pub IsNumbered : ℕ → Body → Type 0
IsNumbered nlink (Bytes bytes) = Unit {0}
IsNumbered nlink (Path path) = Unit {0}
IsNumbered nlink (Names parent next names) = (nlink < next) × AreBelow next names

-- what holds of every file
pub record IsFile (file : File) : Type 0 where
  pub kind : file.kind ≡ kind_of file.body
  pub mode : file.mode < 2 ^ 12
  pub size : size_of file.body < 2 ^ 31
  pub numbers : IsNumbered file.nlink file.body

-- the file with a handle
abbrev pub file_at : List File → ℕ → Option File
file_at [] handle = None
file_at (file ∷ files) handle = if file.handle == handle then Some file else file_at files handle

-- the files with one more, or with a file in the place of the one that has its handle
abbrev pub with_file : List File → File → List File
with_file [] new = new ∷ []
with_file (file ∷ files) new =
    if file.handle == new.handle then new ∷ files
    else if nat_lt new.handle file.handle then new ∷ file ∷ files
    else file ∷ with_file files new

-- What a map from handles to files keeps: each file stands at its own handle.
abbrev pub AreAtHandles : List (ℕ × File) → Type 0
AreAtHandles [] = Unit {0}
AreAtHandles (entry ∷ entries) = (entry.0 ≡ entry.1.handle) × IsFile entry.1 × AreAtHandles entries

-- The handles rise besides, and each file's number stands beside its handle among the numbers, and no other does.
pub record AreKept (entries : List (ℕ × File)) (fileids : Fileids) : Type 0 where
  pub at : AreAtHandles entries
  pub rise : IsStrictlySortedBy nat_cmp (keys_of entries)
  pub numbers : (number handle : ℕ) → has_pair fileids number handle ≡ ((fileid (parts_of handle) == number) && list_any (λ key. key == handle) (keys_of entries))

-- the files, with the one that has the handle changed
abbrev pub with_changed : List File → ℕ → (File → File) → List File
with_changed files handle change = map (λ file. if file.handle == handle then change file else file) files

-- the files without the one that has the handle
abbrev pub without_file : List File → ℕ → List File
without_file files handle = filter (λ file. not (file.handle == handle)) files
