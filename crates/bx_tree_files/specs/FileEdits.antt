-- Edits of a file, as procedures make them.
use Rattle.std.specs.Prelude.{◌≡◌, ℕ, ◌+◌, ◌<◌, ◌≤◌, nat_lt, Bool, true, false, ◌&&◌, List, length, None}
use Rattle.bx_tree_files.specs.declared.edits.Edit.{Edit}
use Rattle.bx_tree_files.specs.declared.edits.Edit.TheVariants.{Fields, Size, Data, Entered, Replaced, TakenOut, Linked, Unlinked, MovedTo}
use Rattle.bx_tree_files.specs.declared.file.File.{File}
use Rattle.bx_tree_files.specs.Entries.{entry_named}
use Rattle.bx_tree_files.specs.Files.{is_directory}
use Rattle.bx_tree_files.specs.Changes.{entered, linked, taken_out, unlinked, moved_to, most_bytes, with_data, with_fields, with_size}
use Rattle.bx_tree_files.specs.Names.{names_of, next_of}
use Rattle.bx_tree_parts.specs.Times.{Time, is_given}

-- A directory with a new entry in the place of the one with its name, changed now. A directory that goes counts no more
-- among its links, and one that comes into it does.
abbrev pub replaced : Time → List ℕ → ℕ → Bool → Bool → File → File
replaced now name handle goes comes directory = entered now name handle comes (taken_out now name goes directory)

-- the file after the edit
abbrev pub edited : Time → Edit → File → File
edited now (Fields sattr) file = with_fields now sattr.now file
edited now (Size size) file = with_size now size file
edited now (Data offset written) file = with_data now offset written.now file
edited now (Entered name handle counts) file = entered now name.now handle counts file
edited now (Replaced name handle goes comes) file = replaced now name.now handle goes comes file
edited now (TakenOut name counts) file = taken_out now name.now counts file
edited now Linked file = linked now file
edited now Unlinked file = unlinked now file
edited now (MovedTo parent) file = moved_to now parent file

-- a directory that an entry of the name may come into
pub record CanEnter (name : List ℕ) (file : File) : Type 0 where
  pub kind : is_directory file ≡ true
  pub next : next_of file.body < 4294967295
  pub apart : entry_named (names_of file.body) name ≡ None

-- a directory that has a number left for an entry
pub record CanReplace (file : File) : Type 0 where
  pub kind : is_directory file ≡ true
  pub next : next_of file.body < 4294967295

-- a file that may have one more name
pub record CanLink (file : File) : Type 0 where
  pub kind : is_directory file ≡ false
  pub nlink : file.nlink < 32000

-- the files that may be edited so
abbrev pub CanEdit : Edit → File → Type 0
CanEdit (Fields sattr) file = (is_given sattr.now.size && nat_lt most_bytes sattr.now.size) ≡ false
CanEdit (Size size) file = size ≤ most_bytes
CanEdit (Data offset written) file = offset + length written.now ≤ most_bytes
CanEdit (Entered name handle counts) file = CanEnter name.now file
CanEdit (Replaced name handle goes comes) file = CanReplace file
CanEdit (TakenOut name counts) file = Unit {0}
CanEdit Linked file = CanLink file
CanEdit Unlinked file = Unit {0}
CanEdit (MovedTo parent) file = Unit {0}

-- the edits that take no memory
abbrev pub is_sure : Edit → Bool
is_sure (Fields sattr) = true
is_sure (Size size) = true
is_sure (Data offset written) = false
is_sure (Entered name handle counts) = false
is_sure (Replaced name handle goes comes) = false
is_sure (TakenOut name counts) = true
is_sure Linked = true
is_sure Unlinked = true
is_sure (MovedTo parent) = true

-- those among them that every file may have
abbrev pub is_free : Edit → Bool
is_free (Fields sattr) = false
is_free (Size size) = false
is_free (Data offset written) = false
is_free (Entered name handle counts) = false
is_free (Replaced name handle goes comes) = false
is_free (TakenOut name counts) = true
is_free Linked = false
is_free Unlinked = true
is_free (MovedTo parent) = true
