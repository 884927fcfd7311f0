-- Headers of records.
use Rattle.std.specs.Prelude.{◌≡◌, ℕ, ◌^◌, ◌<◌, ◌≤◌, List, ◌++◌, length}
use Rattle.std.specs.List.{flat_map, AllByRecursion}
use Rattle.std.specs.Int.{w32, w64, to_be_bytes}
use Rattle.bx_layout.specs.bx_base.specs.Writing.{padded}
use Rattle.bx_layout.specs.bx_places.specs.Places.{IsBlock}
use Rattle.bx_records.specs.declared.record_head.RecordHead.{RecordHead}

-- what every header has: at most 16 blocks, each a block of some volume
pub record IsHead (head : RecordHead) : Type 0 where
  pub call : head.call < 2 ^ 64
  pub moment : head.moment < 2 ^ 64
  pub spare : head.spare < 2 ^ 64
  pub made : head.made < 2 ^ 64
  pub count : length head.blocks ≤ 16
  pub each : AllByRecursion (IsBlock 64) head.blocks

-- the point, how many blocks there are, and their numbers
abbrev pub head_text : RecordHead → List ℕ
head_text head =
    to_be_bytes w64 head.call ++ (to_be_bytes w64 head.moment ++ (to_be_bytes w64 head.spare ++ (to_be_bytes w64 head.made ++ (to_be_bytes w32 (length head.blocks) ++ flat_map (to_be_bytes w64) head.blocks))))

-- the sector is this header
pub record SpellsHead (head : RecordHead) (sector : List ℕ) : Type 0 where
  pub is : IsHead head
  pub parts : sector ≡ padded 512 (head_text head)
