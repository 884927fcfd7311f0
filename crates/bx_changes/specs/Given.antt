-- Inodes with the attributes that a client sets.
use Rattle.std.specs.Prelude.{◌%◌, if◌then◌else◌}
use Rattle.bx_layout.specs.declared.inode.Inode.{Inode}
use Rattle.bx_tree_files.specs.declared.sattr.Sattr.{Sattr}
use Rattle.bx_tree_files.specs.Changes.{sets_field}
use Rattle.bx_tree_files.specs.Times.{Time, is_given, stored}

-- The inode with the fields that are given, but for the size. It was changed now where one is, and its file's content where a size is
-- given.
abbrev pub with_given : Time → Sattr → Inode → Inode
with_given now sattr inode = record inode {
  mode = if is_given sattr.mode then sattr.mode % 4096 else inode.mode;
  uid = if is_given sattr.uid then sattr.uid else inode.uid;
  gid = if is_given sattr.gid then sattr.gid else inode.gid;
  atime = if is_given sattr.atime.0 then stored sattr.atime else inode.atime;
  mtime = if is_given sattr.mtime.0 then stored sattr.mtime else if is_given sattr.size then now else inode.mtime;
  ctime = if sets_field sattr then now else inode.ctime;
}
