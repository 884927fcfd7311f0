-- The truth of a volume: what its blocks are, once the records of the open logs are laid over what stands in the homes.
use Rattle.std.specs.Prelude.{◌≡◌, ◌⊎◌, ℕ, ◌+◌, ◌/◌, ◌<◌, ◌≤◌, ◌==◌, false, length, if◌then◌else◌, List, [], ◌∷◌, Some, None}
use Rattle.bx_disk.specs.Disks.{Image, Disks}
use Rattle.bx_calls.specs.Regions.{EachOutside, ReadsAs}
use Rattle.bx_rows.specs.declared.session.SessionRow.{SessionRow}
use Rattle.bx_layout.specs.declared.block.Block.{Block}
use Rattle.bx_layout.specs.Blocks.{HasParts, block_text}
use Rattle.bx_places.specs.Places.{IsBlock, block_place, gate_place, body_place}
use Rattle.bx_truth.specs.bx_views.specs.Truths.{Truth}
use Rattle.bx_volume.specs.Records.{Logged, HasLog, logged_text, newest_in}

-- the records of the log slots, by slot
abbrev pub Logs : Type 0
Logs = ℕ → List Logged

-- the block stands in the home of this number
pub record IsHome (held : Image) (devices at : ℕ) (block : Block) : Type 0 where
  pub is : HasParts block
  pub reads : ReadsAs held (block_place at devices).0 (block_place at devices).1 (block_text block)

-- no log has a block with this number
abbrev pub IsUnlogged : Logs → ℕ → Type 0
IsUnlogged logs at = (slot : ℕ) → slot < 8 → newest_in (logs slot) at ≡ None

-- What the devices hold, by device and sector, is this truth, by these logs: a block that a log has is the newest of its
-- number there, and any other is the one in its home.
pub record IsOverlaidTruth (held : Image) (devices areas : ℕ) (rows : List SessionRow) (logs : Logs) (truth : Truth) : Type 0 where
  pub has_logs : (slot : ℕ) → slot < 8 → HasLog rows held devices areas slot (logs slot)
  pub logged : (slot at : ℕ) (block : Block) → slot < 8 → newest_in (logs slot) at ≡ Some block → truth at ≡ block
  pub home : (at : ℕ) → IsBlock areas at → IsUnlogged logs at → IsHome held devices at (truth at)

-- the logs with other records in a slot
abbrev pub with_log : Logs → ℕ → List Logged → Logs
with_log logs slot records other = if other == slot then records else logs other

-- Nothing but a region of a device was written.
abbrev pub WritesOnly : Image → Image → ℕ → ℕ → ℕ → Type 0
WritesOnly held now device sector count = EachOutside device sector count (λ d s. now d s ≡ held d s)

-- how many sectors of a body its record fills, where the newest record comes first
abbrev pub filled_of : List Logged → ℕ → ℕ
filled_of [] body = 0
filled_of (newest ∷ older) body = if body == length older then length (logged_text newest) / 512 else filled_of older body

-- A sector on which the truth depends: the gates of a run and the first behind it, the sectors of bodies that its records fill, and the
-- homes of the blocks that no log has.
pub data Matters (devices areas : ℕ) (logs : Logs) : ℕ → ℕ → Type 0 where
  Gate : (slot gate : ℕ) → slot < 8 → gate < 8 → gate ≤ length (logs slot) → Matters devices areas logs (gate_place slot gate devices).0 (gate_place slot gate devices).1
  Body : (slot body sector : ℕ) → slot < 8 → body < length (logs slot) → sector < 145 → sector < filled_of (logs slot) body
      → Matters devices areas logs (body_place slot body devices).0 ((body_place slot body devices).1 + sector)
  Home : (at sector : ℕ) → IsBlock areas at → IsUnlogged logs at → sector < 9 → Matters devices areas logs (block_place at devices).0 ((block_place at devices).1 + sector)

-- A sector of the home of a block that a log has.
pub record IsOfLogged (devices areas : ℕ) (logs : Logs) (d s : ℕ) : Type 0 where
  pub at : ℕ
  pub is : IsBlock areas at
  pub slot : ℕ
  pub in_slots : slot < 8
  pub block : Block
  pub newest : newest_in (logs slot) at ≡ Some block
  pub sector : ℕ
  pub within : sector < 9
  pub device : d ≡ (block_place at devices).0
  pub place : s ≡ (block_place at devices).1 + sector

-- with one record more in a slot: its body matters too, and the gate behind its own
abbrev pub MattersMore : ℕ → ℕ → Logs → ℕ → Logged → ℕ → ℕ → Type 0
MattersMore devices areas logs slot more d s =
    Matters devices areas logs d s
    ⊎ (((sector : ℕ) × (sector < length (logged_text more) / 512) × (d ≡ (body_place slot (length (logs slot)) devices).0) × (s ≡ (body_place slot (length (logs slot)) devices).1 + sector))
    ⊎ ((length (logs slot) + 1 < 8) × (d ≡ (gate_place slot (length (logs slot) + 1) devices).0) × (s ≡ (gate_place slot (length (logs slot) + 1) devices).1)))

-- a sector of disks is sure, and reads so
pub record IsSureAs (disks : Disks) (disk sector : ℕ) (content : List ℕ) : Type 0 where
  pub sure : disks.unsure disk sector ≡ false
  pub reads : disks.reads disk sector ≡ content
