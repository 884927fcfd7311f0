-- Sizes of regular files, by their inodes.
use Rattle.std.specs.Prelude.{ℕ, max, nat_lt, Bool, ◌&&◌}
use Rattle.bx_layout.specs.declared.inode.Inode.{Inode}

-- growing to a size would show bytes again that were cut and aren't cleared
abbrev pub grows_over : Inode → ℕ → Bool
grows_over inode size = nat_lt inode.size size && nat_lt inode.size inode.tail

-- The inode with another size. Bytes that are cut may be old: the tail stays behind them.
abbrev pub with_length : ℕ → Inode → Inode
with_length size inode = record inode { size = size; tail = max inode.tail size }
