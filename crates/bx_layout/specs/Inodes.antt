-- Inodes.
use Rattle.std.specs.Prelude.{◌≡◌, ℕ, ◌+◌, ◌^◌, ◌<◌, ◌≤◌, ◌⊎◌, List, ◌++◌, length, replicate}
use Rattle.std.specs.Int.{w32, w64, to_be_bytes}
use Rattle.bx_base.specs.Writing.{padded}
use Rattle.bx_layout.specs.declared.inode.Inode.{Inode}

-- the types of files: 0 dead, 1 a regular file, 2 a directory, 5 a link
abbrev pub IsKind : ℕ → Type 0
IsKind kind = (kind ≡ 0) ⊎ ((kind ≡ 1) ⊎ ((kind ≡ 2) ⊎ (kind ≡ 5)))

-- two numbers of 32 bits
abbrev pub IsTime : ℕ × ℕ → Type 0
IsTime time = (time.0 < 2 ^ 32) × (time.1 < 2 ^ 32)

-- what every inode has
pub record IsInode (inode : Inode) : Type 0 where
  pub kind : IsKind inode.kind
  pub mode : inode.mode < 2 ^ 12
  pub nlink : inode.nlink < 2 ^ 32
  pub uid : inode.uid < 2 ^ 32
  pub gid : inode.gid < 2 ^ 32
  pub size : inode.size < 2 ^ 64
  pub tail : inode.tail < 2 ^ 64
  pub atime : IsTime inode.atime
  pub mtime : IsTime inode.mtime
  pub ctime : IsTime inode.ctime
  pub tree : inode.tree < 2 ^ 64
  pub parent : inode.parent < 2 ^ 64
  pub next : inode.next < 2 ^ 32
  pub path : 88 + length inode.path ≤ 4096

-- seconds and microseconds
abbrev pub time_text : ℕ × ℕ → List ℕ
time_text time = to_be_bytes w32 time.0 ++ to_be_bytes w32 time.1

-- the type, the mode, the links, the owner, the group, and four zeros
abbrev pub owner_text : Inode → List ℕ
owner_text inode =
    to_be_bytes w32 inode.kind ++ (to_be_bytes w32 inode.mode ++ (to_be_bytes w32 inode.nlink ++ (to_be_bytes w32 inode.uid ++ (to_be_bytes w32 inode.gid ++ replicate 4 0))))

-- the size, the tail and the three times
abbrev pub size_text : Inode → List ℕ
size_text inode =
    to_be_bytes w64 inode.size ++ (to_be_bytes w64 inode.tail ++ (time_text inode.atime ++ (time_text inode.mtime ++ time_text inode.ctime)))

-- the tree, the parent, the next entry number, and the path behind its length
abbrev pub tree_text : Inode → List ℕ
tree_text inode =
    to_be_bytes w64 inode.tree ++ (to_be_bytes w64 inode.parent ++ (to_be_bytes w32 inode.next ++ (to_be_bytes w32 (length inode.path) ++ inode.path)))

abbrev pub inode_text : Inode → List ℕ
inode_text inode = owner_text inode ++ (size_text inode ++ tree_text inode)

-- the payload is this inode
pub record SpellsInode (inode : Inode) (payload : List ℕ) : Type 0 where
  pub is : IsInode inode
  pub parts : payload ≡ padded 4096 (inode_text inode)
