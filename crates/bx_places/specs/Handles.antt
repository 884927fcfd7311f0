-- Handles: the names of chunks, by their parts and by their numbers, and the 32 bytes that name files.
use Rattle.std.specs.Prelude.{ℕ, ◌+◌, ◌*◌, ◌/◌, ◌%◌, ◌^◌, ◌<◌, List, ◌++◌, codes, replicate, take, drop, if◌then◌else◌, Option, Some, None}
use Rattle.std.specs.Int.{w64, to_be_bytes, from_be_bytes}
use Rattle.std.specs.Str.{bytes_eq}
use Rattle.bx_places.specs.declared.chunk_handle.ChunkHandle.{ChunkHandle}

-- every handle has 16 bits of area, 16 of slot and 32 of generation
pub record IsHandle (handle : ChunkHandle) : Type 0 where
  pub area : handle.area < 2 ^ 16
  pub slot : handle.slot < 2 ^ 16
  pub generation : handle.generation < 2 ^ 32

-- the number of a handle: its area, its slot and its generation, from the highest bits
abbrev pub number_of : ChunkHandle → ℕ
number_of handle = handle.area * 2 ^ 48 + handle.slot * 2 ^ 32 + handle.generation

-- the parts of the handle with a number
abbrev pub parts_of : ℕ → ChunkHandle
parts_of number = record { area = number / 2 ^ 48; slot = number / 2 ^ 32 % 2 ^ 16; generation = number % 2 ^ 32 }

-- the handle of the own block of an area
abbrev pub own_handle : ℕ → ChunkHandle
own_handle area = record { area = area; slot = 960; generation = 0 }

-- the number of the block that it is in
abbrev pub block_of : ChunkHandle → ℕ
block_of handle = 1024 * handle.area + handle.slot

-- the number of the file whose inode it is
abbrev pub fileid : ChunkHandle → ℕ
fileid handle = block_of handle + 2

-- the 32 bytes that name the file with this handle's number, of this volume (RFC 1094, section 2.3.3)
abbrev pub file_text : ℕ → ℕ → List ℕ
file_text volume handle = codes "BOXWOOD1" ++ (to_be_bytes w64 volume ++ (to_be_bytes w64 handle ++ replicate 8 0))

-- the number of the handle that bytes name on a volume, if they name one
abbrev pub named : ℕ → List ℕ → Option ℕ
named volume bytes =
    let handle = from_be_bytes w64 (take 8 (drop 16 bytes)) in
    if bytes_eq bytes (file_text volume handle) then Some handle else None
