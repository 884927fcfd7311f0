-- What a write's end and its letters mean, in words of devices and members.
use Rattle.std.specs.Prelude.{◌≡◌, ℕ, ◌⊎◌, Bool, false, true, List, Contains, Some, slice_get}
use Rattle.bx_post.specs.declared.packets.Letter.{Letter}
use Rattle.bx_records.specs.declared.runs.Run.{Run}
use Rattle.bx_rows.specs.Modes.{IsWritten}
use Rattle.bx_rows.specs.declared.device.DeviceRow.{DeviceRow}
use Rattle.bx_mirror_client.specs.declared.sending.Ack.{Ack}
use Rattle.bx_mirror_client.specs.declared.sending.Sending.{Sending}
use Rattle.bx_mirror_client.specs.Letters.{is_new_epoch, write_letter}
use Rattle.bx_mirror_client.specs.Sends.{member_at}

-- some of the runs are on a device
abbrev pub HasRuns : ℕ → List Run → Type 0
HasRuns device runs = (run : Run) × Contains runs run × (run.device ≡ device)

-- a member has acknowledged in an epoch
abbrev pub HasAcked : List Ack → ℕ → ℕ → Type 0
HasAcked acks member epoch = Contains acks (record { member = member; epoch = epoch })

-- A device is in no copy mode, and each of its members to which writes go has acknowledged in its epoch.
pub record IsRowDone (acks : List Ack) (device : ℕ) (row : DeviceRow) : Type 0 where
  pub writes : IsWritten row.mode false ⊎ IsWritten row.mode true
  pub acked : (second : Bool) → IsWritten row.mode second → HasAcked acks (member_at device second) row.epoch

-- So it is of each device that has some of a write's runs.
pub record IsDone (s : Sending) (rows : List DeviceRow) : Type 0 where
  pub each : (device : ℕ) (row : DeviceRow) → slice_get rows device ≡ Some row → HasRuns device s.runs.1 → IsRowDone s.acks device row

-- A letter goes to a member of a device that has some of the runs, in whose row writes go to that member, and in whose epoch, a new one, it hasn't acknowledged.
pub record IsTold (before : List DeviceRow) (node : ℕ) (s : Sending) (rows : List DeviceRow) (letter : Letter) : Type 0 where
  pub device : ℕ
  pub second : Bool
  pub row : DeviceRow
  pub there : slice_get rows device ≡ Some row
  pub runs : HasRuns device s.runs.1
  pub epoch : is_new_epoch before device row ≡ true
  pub written : IsWritten row.mode second
  pub not_acked : HasAcked s.acks (member_at device second) row.epoch → ⊥
  pub is : letter ≡ write_letter node s device row second
