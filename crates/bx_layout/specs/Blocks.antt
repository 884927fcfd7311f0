-- Blocks: a header of one sector, and 4096 bytes.
use Rattle.std.specs.Prelude.{◌≡◌, ℕ, ◌^◌, ◌<◌, List, ◌++◌, length}
use Rattle.std.specs.Int.{w32, w64, to_be_bytes}
use Rattle.bx_base.specs.Writing.{padded}
use Rattle.bx_places.specs.declared.chunk_handle.ChunkHandle.{ChunkHandle}
use Rattle.bx_places.specs.Handles.{parts_of}
use Rattle.bx_layout.specs.declared.block.Block.{Block}

-- a handle is that of the own block of an area of some volume
pub record IsOwn (handle : ChunkHandle) : Type 0 where
  pub area : handle.area < 64
  pub slot : handle.slot ≡ 960
  pub generation : handle.generation ≡ 0

-- what every block has; the own block of an area, which is of kind 4, has its own handle
pub record HasParts (block : Block) : Type 0 where
  pub handle : block.handle < 2 ^ 64
  pub kind : block.kind < 5
  pub own : block.kind ≡ 4 → IsOwn (parts_of block.handle)
  pub payload : length block.payload ≡ 4096

-- the sector of the header: the handle and the kind
abbrev pub header_text : ℕ → ℕ → List ℕ
header_text handle kind = padded 512 (to_be_bytes w64 handle ++ to_be_bytes w32 kind)

-- the header's sector, and the payload
abbrev pub block_text : Block → List ℕ
block_text block = header_text block.handle block.kind ++ block.payload

-- the nine sectors are this block
pub record SpellsBlock (block : Block) (bytes : List ℕ) : Type 0 where
  pub is : HasParts block
  pub parts : bytes ≡ block_text block

-- the sector is the header of a block with this handle and of this kind
pub record SpellsHeader (handle kind : ℕ) (sector : List ℕ) : Type 0 where
  pub fits : handle < 2 ^ 64
  pub known : kind < 5
  pub own : kind ≡ 4 → IsOwn (parts_of handle)
  pub parts : sector ≡ header_text handle kind
