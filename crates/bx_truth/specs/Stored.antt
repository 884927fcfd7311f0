-- Files as they are stored: an inode, the pages of its tree, and the blocks that the tree's entries name.
use Rattle.std.specs.Prelude.{◌≡◌, ℕ, ◌+◌, ◌*◌, ◌/◌, ◌%◌, ◌^◌, ◌<◌, ◌≤◌, ◌⊎◌, List, length, slice_index, AllPairs, Contains, Option, Some, None, option_and_then}
use Rattle.bx_views.specs.bx_layout.specs.declared.block.Block.{Block}
use Rattle.bx_views.specs.bx_layout.specs.declared.inode.Inode.{Inode}
use Rattle.bx_views.specs.bx_layout.specs.Inodes.{SpellsInode}
use Rattle.bx_model.specs.bx_tree_files.specs.declared.file.Body.{Body}
use Rattle.bx_model.specs.bx_tree_files.specs.declared.file.Body.TheVariants.{Bytes, Path, Names}
use Rattle.bx_model.specs.bx_tree_files.specs.declared.file.File.{File}
use Rattle.bx_model.specs.bx_tree_files.specs.declared.file.Name.{Name}
use Rattle.bx_page.specs.declared.entry.Entry.{Entry}
use Rattle.bx_page.specs.Contents.{value_of}
use Rattle.bx_truth.specs.Keys.{name_key, name_value, entry_key, entry_value, content_key, content_value}
use Rattle.bx_truth.specs.PageTrees.{Chunks, Node, PageTree, IsTree, IsPageOf, map_of, handle_in}

-- what has a chunk: it is an inode itself, a page of the tree of the inode with this handle, or the block of a piece of its file
pub data Owner : Type 0 where
  Inodes : Owner
  PageOf : ℕ → Owner
  DataOf : ℕ → ℕ → Owner

-- an inode, and its tree where it has one
pub record Stored : Type 0 where
  pub inode : Inode
  pub tree : PageTree

-- the block is this inode's
pub record HasInode (inode : Inode) (block : Block) : Type 0 where
  pub kind : block.kind ≡ 1
  pub spells : SpellsInode inode block.payload

-- the inode with this handle has this tree, and the tree's pages are its own
pub record HasTree (chunks : Chunks) (owner : ℕ → Owner) (handle : ℕ) (stored : Stored) : Type 0 where
  pub is : IsTree chunks stored.inode.tree stored.tree
  pub pages : (node : Node) → IsPageOf stored.tree node → owner node.handle ≡ PageOf handle

-- an entry of its tree names the block of a piece of its file, which is its own
pub record IsContent (chunks : Chunks) (owner : ℕ → Owner) (handle : ℕ) (key value : List ℕ) : Type 0 where
  pub index : ℕ
  pub names : ℕ
  pub block : Block
  pub index_fits : index < 2 ^ 32
  pub names_fits : names < 2 ^ 64
  pub key_is : key ≡ content_key index
  pub value_is : value ≡ content_value names
  pub chunk : chunks names ≡ Some block
  pub kind : block.kind ≡ 3
  pub own : owner names ≡ DataOf handle index

-- each entry of its tree does
abbrev pub HasContents : Chunks → (ℕ → Owner) → ℕ → Stored → Type 0
HasContents chunks owner handle stored = (key value : List ℕ) → value_of (map_of stored.tree) key ≡ Some value → IsContent chunks owner handle key value

-- the block of a piece, where there is one
abbrev pub piece_of : Chunks → PageTree → ℕ → Option Block
piece_of chunks tree index = option_and_then (λ value. chunks (handle_in value)) (value_of (map_of tree) (content_key index))

-- a byte of a piece, zero where there is no piece
abbrev pub byte_in : Option Block → ℕ → ℕ
byte_in None place = 0
byte_in (Some block) place = slice_index block.payload place

-- The bytes are those of pieces by their index, zeros where there is none, cut at the size; and from the tail on all bytes of
-- pieces are zero.
pub record AreBytesOf (pieces : ℕ → Option Block) (size tail : ℕ) (bytes : List ℕ) : Type 0 where
  pub long : length bytes ≡ size
  pub each : (place : ℕ) → place < length bytes → slice_index bytes place ≡ byte_in (pieces (place / 4096)) (place % 4096)
  pub cleared : (index place : ℕ) → index < 2 ^ 32 → place < 4096 → tail ≤ 4096 * index + place → byte_in (pieces index) place ≡ 0

-- a regular file, whose bytes are those of the pieces that its tree names
pub record IsRegular (chunks : Chunks) (owner : ℕ → Owner) (handle : ℕ) (stored : Stored) (bytes : List ℕ) : Type 0 where
  pub kind : stored.inode.kind ≡ 1
  pub tree : HasTree chunks owner handle stored
  pub contents : HasContents chunks owner handle stored
  pub bytes_are : AreBytesOf (piece_of chunks stored.tree) stored.inode.size stored.inode.tail bytes

-- the key and the value are those of an entry by its number, or by its name
abbrev pub IsOfName : Name → List ℕ → List ℕ → Type 0
IsOfName name key value =
    ((key ≡ entry_key name.number) × (value ≡ entry_value name.handle name.name)) ⊎ ((key ≡ name_key name.name) × (value ≡ name_value name.number name.handle))

-- The entries of a directory, in the order of their numbers: each is in the tree by its number and by its name, and the tree has nothing else.
pub record AreNames (entries : List Entry) (names : List Name) : Type 0 where
  pub numbered : (name : Name) → Contains names name → value_of entries (entry_key name.number) ≡ Some (entry_value name.handle name.name)
  pub named : (name : Name) → Contains names name → value_of entries (name_key name.name) ≡ Some (name_value name.number name.handle)
  pub only : (key value : List ℕ) → value_of entries key ≡ Some value → (name : Name) × Contains names name × IsOfName name key value
  pub number_fits : (name : Name) → Contains names name → name.number < 2 ^ 32
  pub handle_fits : (name : Name) → Contains names name → name.handle < 2 ^ 64
  pub in_order : AllPairs (λ a b. a.number < b.number) names

pub record IsDirectory (chunks : Chunks) (owner : ℕ → Owner) (handle : ℕ) (stored : Stored) (parent next : ℕ) (names : List Name) : Type 0 where
  pub kind : stored.inode.kind ≡ 2
  pub tree : HasTree chunks owner handle stored
  pub parent_is : stored.inode.parent ≡ parent
  pub next_is : stored.inode.next ≡ next
  pub entries : AreNames (map_of stored.tree) names

pub record IsLink (stored : Stored) (path : List ℕ) : Type 0 where
  pub kind : stored.inode.kind ≡ 5
  pub no_tree : stored.inode.tree ≡ 0
  pub path_is : stored.inode.path ≡ path

-- A dead inode has no tree, or one whose entries name the pieces that are left.
pub record IsDead (chunks : Chunks) (owner : ℕ → Owner) (handle : ℕ) (stored : Stored) : Type 0 where
  pub kind : stored.inode.kind ≡ 0
  pub tree : (stored.inode.tree ≡ 0) ⊎ (HasTree chunks owner handle stored × HasContents chunks owner handle stored)

abbrev pub HasBody : Chunks → (ℕ → Owner) → ℕ → Stored → Body → Type 0
HasBody chunks owner handle stored (Bytes bytes) = IsRegular chunks owner handle stored bytes
HasBody chunks owner handle stored (Path path) = IsLink stored path
HasBody chunks owner handle stored (Names parent next names) = IsDirectory chunks owner handle stored parent next names

-- what an inode says of its file
pub record HasFields (inode : Inode) (file : File) : Type 0 where
  pub kind : inode.kind ≡ file.kind
  pub mode : inode.mode ≡ file.mode
  pub nlink : inode.nlink ≡ file.nlink
  pub uid : inode.uid ≡ file.uid
  pub gid : inode.gid ≡ file.gid
  pub atime : inode.atime ≡ file.atime
  pub mtime : inode.mtime ≡ file.mtime
  pub ctime : inode.ctime ≡ file.ctime

-- The inode with this handle is a file's, or a dead one where there is no file.
abbrev pub IsFileOr : Chunks → (ℕ → Owner) → ℕ → Stored → Option File → Type 0
IsFileOr chunks owner handle stored None = IsDead chunks owner handle stored
IsFileOr chunks owner handle stored (Some file) = (file.handle ≡ handle) × HasFields stored.inode file × HasBody chunks owner handle stored file.body
