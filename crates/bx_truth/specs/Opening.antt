-- The truth of a volume that was just made.
use Rattle.std.specs.Prelude.{ℕ, ◌+◌, ◌^◌, ◌==◌, if◌then◌else◌, List, [], ◌∷◌, replicate, None}
use Rattle.bx_page.specs.bx_base.specs.Writing.{padded}
use Rattle.bx_places.specs.Handles.{number_of, own_handle}
use Rattle.bx_views.specs.bx_layout.specs.declared.area.AreaBlock.{AreaBlock}
use Rattle.bx_views.specs.bx_layout.specs.declared.block.Block.{Block}
use Rattle.bx_views.specs.bx_layout.specs.declared.inode.Inode.{Inode}
use Rattle.bx_views.specs.bx_layout.specs.Areas.{area_text}
use Rattle.bx_views.specs.bx_layout.specs.Inodes.{inode_text}
use Rattle.bx_places.specs.Places.{block_area, block_slot}
use Rattle.bx_model.specs.Opening.{root_handle}
use Rattle.bx_page.specs.Contents.{Contents}
use Rattle.bx_page.specs.Spelling.{page_bytes}
use Rattle.bx_views.specs.Truths.{Truth}

-- the page of the root's tree: area 0, slot 1, generation 1
abbrev pub page_handle : ℕ
page_handle = 2 ^ 32 + 1

-- the root's inode
abbrev pub opening_inode : Inode
opening_inode = record {
  kind = 2;
  mode = 0o777;
  nlink = 2;
  uid = 0;
  gid = 0;
  size = 0;
  tail = 0;
  atime = (0, 0);
  mtime = (0, 0);
  ctime = (0, 0);
  tree = page_handle;
  parent = root_handle;
  next = 3;
  path = [];
}

-- a page without entries
abbrev pub empty_page : Contents
empty_page = record { level = 0; right = 0; high = None; entries = [] }

-- the slots of an area: the first area's first two are in use, in generation 1, and no others are
abbrev pub opening_words : ℕ → List ℕ
opening_words area = if area == 0 then (2 ^ 31 + 1) ∷ (2 ^ 31 + 1) ∷ replicate 958 0 else replicate 960 0

abbrev pub opening_slots : ℕ → AreaBlock
opening_slots area = record { words = opening_words area; dead = replicate 120 0 }

unfoldable pub area_block : ℕ → Block
area_block area = record { handle = number_of (own_handle area); kind = 4; payload = padded 4096 (area_text (opening_slots area)) }

unfoldable pub root_block : Block
root_block = record { handle = root_handle; kind = 1; payload = padded 4096 (inode_text opening_inode) }

unfoldable pub page_block : Block
page_block = record { handle = page_handle; kind = 2; payload = page_bytes empty_page }

unfoldable pub free_block : Block
free_block = record { handle = 0; kind = 0; payload = replicate 4096 0 }

-- The root's inode is in the first slot of the first area and its page in the second, and all other slots are free.
abbrev pub opening_truth : Truth
opening_truth block =
    if block_slot block == 960 then area_block (block_area block) else if block == 0 then root_block else if block == 1 then page_block else free_block
