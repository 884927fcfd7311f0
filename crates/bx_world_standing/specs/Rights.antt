-- Who may write what, and who has read it: sessions by the last state of the chain, by what they hold, and by the logs of slots.
use Rattle.std.specs.Prelude.{◌≡◌, ◌⊎◌, ℕ, ◌+◌, ◌<◌, ◌≤◌, true, List, Contains, Some}
use Rattle.bx_facts.specs.Chains.{Chain, HasRow, IsPlace, LivesIn, last, oldest}
use Rattle.bx_facts.specs.Holds.{Holds, is_exclusive}
use Rattle.bx_facts.specs.Writes.{IsOnly, Sent, WritesTo}
use Rattle.bx_global.specs.declared.state.GlobalState.{GlobalState}
use Rattle.bx_places.specs.Places.{IsBlock, block_place, log_device, log_start}
use Rattle.bx_rows.specs.Words.{row_in}
use Rattle.bx_rows.specs.declared.session.SessionRow.{SessionRow}
use Rattle.bx_world_logs.specs.bx_volume.specs.Overlay.{Logs}
use Rattle.bx_world_chains.specs.Entitled.{IsEntitled}
use Rattle.bx_world_logs.specs.Logs.{IsInLog, Slot}

-- a sector is one of a log slot; one of a block's home
pub record IsOfSlot (devices slot d s : ℕ) : Type 0 where
  pub device : d ≡ log_device slot devices
  pub from : log_start slot ≤ s
  pub to : s < log_start slot + 1168

pub record IsOfHome (devices at d s : ℕ) : Type 0 where
  pub device : d ≡ (block_place at devices).0
  pub i : ℕ
  pub few : i < 9
  pub is : s ≡ (block_place at devices).1 + i

-- A session has a block for itself: it holds it exclusively, or is of an earlier term, which stands for a hold of each block.
abbrev pub HasBlock : Holds → ℕ → ℕ → ℕ → Type 0
HasBlock holding oldest session at = (is_exclusive (holding session at) ≡ true) ⊎ (session < oldest)

-- Each block of a log, and of a record under way there, is its session's.
pub record RightsStand (rows : List SessionRow) (holding : Holds) (oldest areas : ℕ) (logs : Logs) (slots : ℕ → Slot) : Type 0 where
  pub each : (session : ℕ) (row : SessionRow) (at : ℕ) → row_in rows session ≡ Some row → IsInLog logs slots row.slot at → IsBlock areas at × HasBlock holding oldest session at

-- A live session may write a sector: one of a slot that is its own to write; or of the home of a block that it holds exclusively, or that is in a log that is its own to write.
pub data MayTouch (devices areas : ℕ) (s : GlobalState) (holding : Holds) (logs : Logs) (slots : ℕ → Slot) (session d sector : ℕ) : Type 0 where
  OfSlot : (owner slot : ℕ) → slot < 8 → IsEntitled s owner slot session → IsOfSlot devices slot d sector → MayTouch devices areas s holding logs slots session d sector
  OfHeld : (at : ℕ) → IsBlock areas at → IsOfHome devices at d sector → is_exclusive (holding session at) ≡ true → MayTouch devices areas s holding logs slots session d sector
  OfLogged : (at owner slot : ℕ) → IsBlock areas at → IsOfHome devices at d sector → slot < 8 → IsEntitled s owner slot session → IsInLog logs slots slot at → MayTouch devices areas s holding logs slots session d sector

-- Each write that members may still take ends with its session, whose end was given; and where that is live, it may write each of its sectors.
pub record WritesStand (devices areas : ℕ) (s : GlobalState) (holding : Holds) (leases : List (ℕ × ℕ)) (logs : Logs) (slots : ℕ → Slot) (writes : List Sent) : Type 0 where
  pub ends : (write : Sent) → Contains writes write → (end : ℕ) × Contains leases (write.session, end) × (write.until ≤ end)
  pub given : (write : Sent) → Contains writes write → write.session < s.next_session
  pub may : (write : Sent) (d sector : ℕ) (content : List ℕ) → Contains writes write → LivesIn s write.session → WritesTo write d sector content → MayTouch devices areas s holding logs slots write.session d sector

-- `IsOf` says that a live session with this row is, or may come to be, a node's.
module _ (devices areas : ℕ) (chain : Chain) (holding : Holds) (floor : ℕ → ℕ) (IsOf : ℕ → SessionRow → Type 0) (knew : ℕ → ℕ) where
  -- Each node whose session it is, or may come to be, while it is live, knows as much.
  abbrev pub IsKnown : ℕ → ℕ → Type 0
  IsKnown session index = (node : ℕ) (row : SessionRow) → row_in (last chain).sessions session ≡ Some row → row.dead ≡ 0 → IsOf node row → index ≤ knew node

  -- Whoever gets a block reaches this index: its floor does; or a session that has a row has the block, and its node, where it is live, knows as much.
  abbrev pub IsReached : ℕ → ℕ → Type 0
  IsReached at index = (index ≤ floor at) ⊎ ((session : ℕ) × HasRow (last chain) session × HasBlock holding (oldest chain) session at × IsKnown session index)

  -- No state by which a live session may write the slot, now or once its node is told that state, is an earlier one, as long as the slot's session has a row.
  abbrev pub IsToldOf : ℕ → ℕ → Type 0
  IsToldOf slot index = (node session owner : ℕ) (row : SessionRow) (s : GlobalState) → row_in (last chain).sessions session ≡ Some row → row.dead ≡ 0 → IsOf node row → IsPlace chain s → knew node ≤ s.index
      → IsEntitled s owner slot session → HasRow (last chain) owner → index ≤ s.index

  pub record IsWithin (d s index : ℕ) : Type 0 where
    pub most : index ≤ (last chain).index
    pub home : (at : ℕ) → IsBlock areas at → IsOfHome devices at d s → IsReached at index
    pub slot : (slot : ℕ) → slot < 8 → IsOfSlot devices slot d s → IsToldOf slot index

-- A sector stands so for all that may read it, and members write nothing else there.
pub record Surely (stands : ℕ → ℕ → List ℕ → ℕ → Type 0) (reaches : ℕ → ℕ → ℕ → Type 0) (writes : List Sent) (greatest d s : ℕ) (content : List ℕ) : Type 0 where
  pub index : ℕ
  pub is : stands d s content index
  pub only : IsOnly writes greatest d s content
  pub within : reaches d s index
