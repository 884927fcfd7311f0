-- The entries of a directory, as its tree has them.
use Rattle.std.specs.Prelude.{◌≡◌, ◌==◌, ◌^◌, ◌<◌, if◌then◌else◌, List, [], ◌∷◌, take, drop, slice_index, Some}
use Rattle.std.specs.Int.{w32, w64, from_be_bytes}
use Rattle.bx_page.specs.declared.entry.Entry.{Entry}
use Rattle.bx_page.specs.Contents.{value_of}
use Rattle.bx_tree_files.specs.declared.file.Name.{Name}
use Rattle.bx_truth.specs.Keys.{name_key, name_value, entry_key, entry_value}

-- a name has a number of 32 bits, and a handle of 64
pub record Fits (name : Name) : Type 0 where
  pub number : name.number < 2 ^ 32
  pub handle : name.handle < 2 ^ 64

-- the entry of a tree is a name's by its number, or by its name
pub record IsByNumber (name : Name) (entry : Entry) : Type 0 where
  pub key : entry.key ≡ entry_key name.number
  pub value : entry.value ≡ entry_value name.handle name.name

pub record IsByName (name : Name) (entry : Entry) : Type 0 where
  pub key : entry.key ≡ name_key name.name
  pub value : entry.value ≡ name_value name.number name.handle

-- what an entry by number tells
abbrev pub name_of : Entry → Name
name_of entry = record { number = from_be_bytes w32 (drop 1 entry.key); name = drop 8 entry.value; handle = from_be_bytes w64 (take 8 entry.value) }

-- the names that the entries by number tell, in their order
abbrev pub names_in : List Entry → List Name
names_in [] = []
names_in (entry ∷ entries) = if slice_index entry.key 0 == 2 then name_of entry ∷ names_in entries else names_in entries

-- An entry is that of a name by its number, and the name's other entry is there; or the other way round.
pub data IsPaired (entries : List Entry) (entry : Entry) : Type 0 where
  ByNumber : (name : Name) → Fits name → IsByNumber name entry → value_of entries (name_key name.name) ≡ Some (name_value name.number name.handle) → IsPaired entries entry
  ByName : (name : Name) → Fits name → IsByName name entry → value_of entries (entry_key name.number) ≡ Some (entry_value name.handle name.name) → IsPaired entries entry
