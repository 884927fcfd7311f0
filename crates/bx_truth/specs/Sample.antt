-- A volume of one area, to show that a truth can stand for more than a root: it has a directory in the root, a regular file in
-- that one, of three pieces of which the second is a hole, whose tree has two levels, and a dead inode.
use Rattle.std.specs.Prelude.{ℕ, ◌+◌, ◌*◌, ◌^◌, ◌==◌, if◌then◌else◌, List, [], ◌∷◌, ◌++◌, replicate, slice_index_or, Some, None}
use Rattle.std.specs.Int.{w64, to_be_bytes}
use Rattle.bx_page.specs.bx_base.specs.Writing.{padded}
use Rattle.bx_places.specs.Handles.{number_of, own_handle}
use Rattle.bx_views.specs.bx_layout.specs.declared.area.AreaBlock.{AreaBlock}
use Rattle.bx_views.specs.bx_layout.specs.declared.block.Block.{Block}
use Rattle.bx_views.specs.bx_layout.specs.declared.inode.Inode.{Inode}
use Rattle.bx_views.specs.bx_layout.specs.Areas.{area_text}
use Rattle.bx_views.specs.bx_layout.specs.Inodes.{inode_text}
use Rattle.bx_model.specs.bx_tree_files.specs.declared.file.Body.TheVariants.{Bytes, Names}
use Rattle.bx_model.specs.bx_tree_files.specs.declared.file.File.{File}
use Rattle.bx_model.specs.bx_tree_files.specs.declared.file.Name.{Name}
use Rattle.bx_model.specs.declared.tree.Tree.{Tree}
use Rattle.bx_model.specs.Opening.{opening_root, root_handle}
use Rattle.bx_page.specs.declared.entry.Entry.{Entry}
use Rattle.bx_page.specs.Contents.{Contents}
use Rattle.bx_page.specs.Spelling.{page_bytes}
use Rattle.bx_places.specs.Places.{block_slot}
use Rattle.bx_truth.specs.Keys.{name_key, name_value, entry_key, entry_value, content_key, content_value}
use Rattle.bx_truth.specs.Opening.{opening_inode, free_block}
use Rattle.bx_views.specs.Truths.{Truth}

-- the handle of a slot of the first area, in generation 1
abbrev pub nth : ℕ → ℕ
nth slot = slot * 2 ^ 32 + 1

-- ---- the files

abbrev pub in_root : Name
in_root = record { number = 3; name = 100 ∷ []; handle = nth 2 }

abbrev pub in_directory : Name
in_directory = record { number = 3; name = 102 ∷ []; handle = nth 4 }

unfoldable pub content : List ℕ
content = replicate 4096 1 ++ (replicate 4096 0 ++ replicate 4096 2)

abbrev pub root_file : File
root_file = record opening_root { nlink = 3; body = Names root_handle 4 (in_root ∷ []) }

abbrev pub directory_file : File
directory_file = record opening_root { handle = nth 2; body = Names root_handle 4 (in_directory ∷ []) }

abbrev pub regular_file : File
regular_file = record opening_root { handle = nth 4; kind = 1; mode = 0o644; nlink = 1; body = Bytes content }

abbrev pub sample_tree : ℕ → Tree
sample_tree volume = record { volume = volume; areas = 1; files = root_file ∷ directory_file ∷ regular_file ∷ []; root = root_handle; given = nth 0 ∷ nth 2 ∷ nth 4 ∷ nth 10 ∷ [] }

-- ---- their inodes and pages

abbrev pub root_inode : Inode
root_inode = record opening_inode { nlink = 3; next = 4 }

abbrev pub directory_inode : Inode
directory_inode = record opening_inode { tree = nth 3; next = 4 }

abbrev pub regular_inode : Inode
regular_inode = record opening_inode { kind = 1; mode = 0o644; nlink = 1; size = 12288; tail = 12288; tree = nth 5; parent = 0; next = 0 }

abbrev pub dead_inode : Inode
dead_inode = record opening_inode { kind = 0; mode = 0; nlink = 0; tree = 0; parent = 0; next = 0 }

-- the entries of a directory with one name
abbrev pub one_name : Name → List Entry
one_name name =
    record { key = name_key name.name; value = name_value name.number name.handle } ∷ record { key = entry_key name.number; value = entry_value name.handle name.name } ∷ []

abbrev pub leaf_of : List Entry → Contents
leaf_of entries = record { level = 0; right = 0; high = None; entries = entries }

-- the pages of the file's tree: a root above two leaves, the second of which begins at the key of the third piece
abbrev pub top_page : Contents
top_page = record {
  level = 1;
  right = 0;
  high = None;
  entries = record { key = []; value = to_be_bytes w64 (nth 6) } ∷ record { key = content_key 2; value = to_be_bytes w64 (nth 7) } ∷ [];
}

abbrev pub left_page : Contents
left_page = record { level = 0; right = nth 7; high = Some (content_key 2); entries = record { key = content_key 0; value = content_value (nth 8) } ∷ [] }

abbrev pub right_page : Contents
right_page = leaf_of (record { key = content_key 2; value = content_value (nth 9) } ∷ [])

-- ---- the blocks

unfoldable pub inode_block : ℕ → Inode → Block
inode_block handle inode = record { handle = handle; kind = 1; payload = padded 4096 (inode_text inode) }

unfoldable pub tree_block : ℕ → Contents → Block
tree_block handle page = record { handle = handle; kind = 2; payload = page_bytes page }

-- a piece of equal bytes
unfoldable pub piece_block : ℕ → ℕ → Block
piece_block handle byte = record { handle = handle; kind = 3; payload = replicate 4096 byte }

-- the blocks of the slots in use
abbrev pub blocks : List Block
blocks =
    inode_block (nth 0) root_inode ∷ tree_block (nth 1) (leaf_of (one_name in_root))
    ∷ inode_block (nth 2) directory_inode ∷ tree_block (nth 3) (leaf_of (one_name in_directory))
    ∷ inode_block (nth 4) regular_inode ∷ tree_block (nth 5) top_page ∷ tree_block (nth 6) left_page ∷ tree_block (nth 7) right_page
    ∷ piece_block (nth 8) 1 ∷ piece_block (nth 9) 2
    ∷ inode_block (nth 10) dead_inode ∷ []

-- eleven slots are in use, in generation 1, and the eleventh is marked
abbrev pub sample_slots : AreaBlock
sample_slots = record { words = replicate 11 (2 ^ 31 + 1) ++ replicate 949 0; dead = 0 ∷ 4 ∷ replicate 118 0 }

unfoldable pub sample_area : Block
sample_area = record { handle = number_of (own_handle 0); kind = 4; payload = padded 4096 (area_text sample_slots) }

abbrev pub sample_truth : Truth
sample_truth block = if block_slot block == 960 then sample_area else slice_index_or blocks block free_block
