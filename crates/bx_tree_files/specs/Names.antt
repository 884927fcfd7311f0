-- Directories as bodies of files.
use Rattle.std.specs.Prelude.{ℕ, ◌+◌, List, []}
use Rattle.bx_tree_files.specs.declared.file.Body.{Body}
use Rattle.bx_tree_files.specs.declared.file.Body.TheVariants.{Bytes, Path, Names}
use Rattle.bx_tree_files.specs.declared.file.Name.{Name}
use Rattle.bx_tree_files.specs.Entries.{with_name, without_name}

-- the entries, the parent and the next number of a directory; other files have none
abbrev pub names_of : Body → List Name
names_of (Bytes bytes) = []
names_of (Path path) = []
names_of (Names parent next names) = names

abbrev pub parent_of : Body → ℕ
parent_of (Bytes bytes) = 0
parent_of (Path path) = 0
parent_of (Names parent next names) = parent

abbrev pub next_of : Body → ℕ
next_of (Bytes bytes) = 0
next_of (Path path) = 0
next_of (Names parent next names) = next

-- a directory with one more entry, which takes the next number
abbrev pub with_entry : List ℕ → ℕ → Body → Body
with_entry name handle (Bytes bytes) = Bytes bytes
with_entry name handle (Path path) = Path path
with_entry name handle (Names parent next names) = Names parent (next + 1) (with_name names next name handle)

-- a directory without the entry of a name
abbrev pub without_entry : List ℕ → Body → Body
without_entry name (Bytes bytes) = Bytes bytes
without_entry name (Path path) = Path path
without_entry name (Names parent next names) = Names parent next (without_name names name)

-- a directory with another parent
abbrev pub with_parent : ℕ → Body → Body
with_parent parent (Bytes bytes) = Bytes bytes
with_parent parent (Path path) = Path path
with_parent parent (Names before next names) = Names parent next names
