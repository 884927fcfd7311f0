-- The inodes of new files, before they have a tree.
use Rattle.std.specs.Prelude.{◌≡◌, ◌≢◌, ℕ, ◌%◌, ◌==◌, ◌&&◌, ◌⊎◌, if◌then◌else◌, List, []}
use Rattle.bx_layout.specs.declared.inode.Inode.{Inode}
use Rattle.bx_model.specs.declared.call.Call.{Call}
use Rattle.bx_tree_files.specs.declared.file.Body.{Body}
use Rattle.bx_tree_files.specs.declared.file.Body.TheVariants.{Path}
use Rattle.bx_tree_files.specs.declared.sattr.Sattr.{Sattr}
use Rattle.bx_tree_files.specs.Times.{Time, is_given, stored}
use Rattle.bx_truth.specs.Making.{IsEmptyBody}

-- The inode of a new file of a type. The file is the caller's, or the user 0 says whose it is; its mode and its times are those given, where
-- they are.
abbrev pub new_inode : Call → Sattr → Time → ℕ → ℕ → Inode
new_inode call sattr now mode kind = record {
  kind = kind;
  mode = if is_given sattr.mode then sattr.mode % 4096 else mode;
  nlink = if kind == 2 then 2 else 1;
  uid = if (call.uid == 0) && is_given sattr.uid then sattr.uid else call.uid;
  gid = if (call.uid == 0) && is_given sattr.gid then sattr.gid else call.gid;
  size = 0;
  tail = 0;
  atime = if is_given sattr.atime.0 then stored sattr.atime else now;
  mtime = if is_given sattr.mtime.0 then stored sattr.mtime else now;
  ctime = now;
  tree = 0;
  parent = 0;
  next = 0;
  path = [];
}

-- of a directory in another one, of a link with a path, and of a regular file of the size given
abbrev pub directory_inode : Call → Sattr → Time → ℕ → Inode
directory_inode call sattr now parent = record (new_inode call sattr now 0o755 2) { parent = parent; next = 3 }

abbrev pub link_inode : Call → Sattr → Time → List ℕ → Inode
link_inode call sattr now path = record (new_inode call sattr now 0o777 5) { path = path }

abbrev pub file_inode : Call → Sattr → Time → Inode
file_inode call sattr now = record (new_inode call sattr now 0o644 1) { size = if is_given sattr.size then sattr.size else 0 }

-- the body of a file whose inode this is, when it is made: a link's path, or what a tree without entries is
abbrev pub IsNewBody : Inode → Body → Type 0
IsNewBody inode body = ((inode.kind ≡ 5) × (inode.tree ≡ 0) × (body ≡ Path inode.path)) ⊎ ((inode.kind ≢ 5) × IsEmptyBody inode body)
