-- The inode of a file that is written.
use Rattle.std.specs.Prelude.{ℕ, max}
use Rattle.bx_layout.specs.declared.inode.Inode.{Inode}
use Rattle.bx_tree_files.specs.Times.{Time}

-- written now up to an end: its size and its tail reach as far
abbrev pub grown : ℕ → Time → Inode → Inode
grown end now inode = record inode { size = max inode.size end; tail = max inode.tail (max inode.size end); mtime = now; ctime = now }
