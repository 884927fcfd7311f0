-- What procedures change in a file.
use Rattle.std.specs.Prelude.{ℕ, ◌+◌, ◌-◌, ◌%◌, Bool, ◌||◌, if◌then◌else◌, List}
use Rattle.bx_tree_files.specs.declared.sattr.Sattr.{Sattr}
use Rattle.bx_tree_files.specs.declared.file.Body.{Body}
use Rattle.bx_tree_files.specs.declared.file.Body.TheVariants.{Bytes, Path, Names}
use Rattle.bx_tree_files.specs.declared.file.File.{File}
use Rattle.bx_tree_parts.specs.Contents.{sized, written_over}
use Rattle.bx_tree_files.specs.Names.{with_entry, without_entry, with_parent}
use Rattle.bx_tree_parts.specs.Times.{Time, is_given, stored}

-- the most bytes that a file has
abbrev pub most_bytes : ℕ
most_bytes = 2147483647

-- a file's content of another size
abbrev pub resized : ℕ → Body → Body
resized size (Bytes bytes) = Bytes (sized size bytes)
resized size (Path path) = Path path
resized size (Names parent next names) = Names parent next names

-- a file of another size, whose content was changed now
abbrev pub with_size : Time → ℕ → File → File
with_size now size file = record file { mtime = now; ctime = now; body = resized size file.body }

-- whether a field is given
abbrev pub sets_field : Sattr → Bool
sets_field sattr = is_given sattr.mode || is_given sattr.uid || is_given sattr.gid || is_given sattr.size || is_given sattr.atime.0 || is_given sattr.mtime.0

-- the file with the fields that are given. It was changed now where one is, and its content where a size is given.
abbrev pub with_fields : Time → Sattr → File → File
with_fields now sattr file = record file {
  mode = if is_given sattr.mode then sattr.mode % 4096 else file.mode;
  uid = if is_given sattr.uid then sattr.uid else file.uid;
  gid = if is_given sattr.gid then sattr.gid else file.gid;
  atime = if is_given sattr.atime.0 then stored sattr.atime else file.atime;
  mtime = if is_given sattr.mtime.0 then stored sattr.mtime else if is_given sattr.size then now else file.mtime;
  ctime = if sets_field sattr then now else file.ctime;
  body = if is_given sattr.size then resized sattr.size file.body else file.body;
}

-- a file's content with bytes written over it
abbrev pub overwritten : ℕ → List ℕ → Body → Body
overwritten offset written (Bytes bytes) = Bytes (written_over offset written bytes)
overwritten offset written (Path path) = Path path
overwritten offset written (Names parent next names) = Names parent next names

abbrev pub with_data : Time → ℕ → List ℕ → File → File
with_data now offset written file = record file { mtime = now; ctime = now; body = overwritten offset written file.body }

-- A directory with a new entry, changed now. A directory that comes into it counts among its links.
abbrev pub entered : Time → List ℕ → ℕ → Bool → File → File
entered now name handle counts directory = record directory {
  nlink = if counts then directory.nlink + 1 else directory.nlink;
  mtime = now;
  ctime = now;
  body = with_entry name handle directory.body;
}

-- A directory without the entry of a name, changed now. A directory that goes out of it counts no more.
abbrev pub taken_out : Time → List ℕ → Bool → File → File
taken_out now name counts directory = record directory {
  nlink = if counts then directory.nlink - 1 else directory.nlink;
  mtime = now;
  ctime = now;
  body = without_entry name directory.body;
}

-- a file with one more name, changed now
abbrev pub linked : Time → File → File
linked now file = record file { nlink = file.nlink + 1; ctime = now }

-- a file with one name less, changed now
abbrev pub unlinked : Time → File → File
unlinked now file = record file { nlink = file.nlink - 1; ctime = now }

-- a file that was moved now; a directory has its new parent
abbrev pub moved_to : Time → ℕ → File → File
moved_to now parent file = record file { ctime = now; body = with_parent parent file.body }
