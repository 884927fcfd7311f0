-- Reading an inode in three parts.
use Rattle.bx_base.specs.Reading.{Reader, then_at, as_at}
use Rattle.bx_layout.specs.declared.parts.OwnerPart.{OwnerPart}
use Rattle.bx_layout.specs.declared.parts.SizePart.{SizePart}
use Rattle.bx_layout.specs.declared.parts.TreePart.{TreePart}
use Rattle.bx_layout.specs.InodeParts.{owner_at, sizes_at, tree_at}
use Rattle.bx_layout.specs.declared.inode.Inode.{Inode}

abbrev pub Parts : Type 0
Parts = OwnerPart × (SizePart × TreePart)

abbrev pub inode_with : Parts → Inode
inode_with x =
    record {
      kind = x.0.kind;
      mode = x.0.mode;
      nlink = x.0.nlink;
      uid = x.0.uid;
      gid = x.0.gid;
      size = x.1.0.size;
      tail = x.1.0.tail;
      atime = x.1.0.atime;
      mtime = x.1.0.mtime;
      ctime = x.1.0.ctime;
      tree = x.1.1.tree;
      parent = x.1.1.parent;
      next = x.1.1.next;
      path = x.1.1.path;
    }

abbrev pub inode_parts : Inode → Parts
inode_parts inode = (
  record { kind = inode.kind; mode = inode.mode; nlink = inode.nlink; uid = inode.uid; gid = inode.gid },
  (
    record { size = inode.size; tail = inode.tail; atime = inode.atime; mtime = inode.mtime; ctime = inode.ctime },
    record { tree = inode.tree; parent = inode.parent; next = inode.next; path = inode.path },
  ),
)

unfoldable pub inode_at : Reader Inode
inode_at bytes = as_at inode_with (then_at owner_at (then_at sizes_at tree_at)) bytes
