-- What an inode says of its file.
use Rattle.std.specs.Prelude.{ℕ, []}
use Rattle.bx_layout.specs.declared.inode.Inode.{Inode}
use Rattle.bx_blink.specs.bx_tree_files.specs.declared.file.Body.{Body}
use Rattle.bx_blink.specs.bx_tree_files.specs.declared.file.Body.TheVariants.{Path}
use Rattle.bx_blink.specs.bx_tree_files.specs.declared.file.File.{File}

-- the file with a handle and a body, whose other fields its inode has
abbrev pub file_with : ℕ → Inode → Body → File
file_with handle inode body = record {
  handle = handle;
  kind = inode.kind;
  mode = inode.mode;
  nlink = inode.nlink;
  uid = inode.uid;
  gid = inode.gid;
  atime = inode.atime;
  mtime = inode.mtime;
  ctime = inode.ctime;
  body = body;
}

-- the file but for its content, for which an empty path stands
abbrev pub head_of : ℕ → Inode → File
head_of handle inode = file_with handle inode (Path [])
