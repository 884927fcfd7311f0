-- What a member takes of the messages that come to it.
use Rattle.std.specs.Prelude.{◌≡◌, ℕ, ◌+◌, ◌/◌, ◌<◌, ◌≤◌, Bool, true, false, not, length, Some}
use Rattle.bx_rows.specs.declared.device.DeviceRow.{DeviceRow}
use Rattle.bx_rows.specs.Modes.{IsReadAtA, IsWritten}
use Rattle.bx_mirror_laws.specs.Acting.{boot_in}
use Rattle.bx_mirror_packets.specs.declared.message.WriteBody.{WriteBody}
use Rattle.bx_mirror_packets.specs.declared.message.ReadBody.{ReadBody}
use Rattle.bx_mirror_packets.specs.declared.message.CopyBody.{CopyBody}
use Rattle.bx_mirror_packets.specs.declared.message.CopiedBody.{CopiedBody}
use Rattle.bx_mirror_tables.specs.Inside.{AreInside}
use Rattle.bx_mirror_tables.specs.Lasts.{last_in}
use Rattle.bx_mirror_member.specs.declared.judging.Judgement.{Judgement}
use Rattle.bx_mirror_member.specs.declared.judging.Judgement.TheVariants.{Taken, Repeated, Refused}
use Rattle.bx_mirror_member.specs.Standing.{MemberView, copy_from, device_in, is_second, room_in}

-- The member acts in this row, which is that of a message's device and epoch, and names the member's boot.
pub record IsActing (m : MemberView) (device epoch : ℕ) (row : DeviceRow) : Type 0 where
  pub device_is : device ≡ device_in m
  pub row_is : m.row ≡ Some row
  pub named : boot_in (is_second m) row ≡ m.boot
  pub epoch_is : row.epoch ≡ epoch

-- A write isn't refused: the member acts in its epoch and is written there, the reading isn't above the write's last one, and its runs lie in the
-- device, behind the label.
pub record IsOpen (m : MemberView) (reading : ℕ) (w : WriteBody) : Type 0 where
  pub row : DeviceRow
  pub acts : IsActing m w.device w.epoch row
  pub written : IsWritten row.mode (is_second m)
  pub in_time : reading ≤ w.until
  pub inside : AreInside (room_in m) w.runs.1

-- One that isn't refused is taken where it is newer than all that was taken of its session in the epoch; else it came before.
pub record IsTaken (m : MemberView) (reading : ℕ) (w : WriteBody) : Type 0 where
  pub opens : IsOpen m reading w
  pub newer : last_in m.lasts w.session < w.sequence

pub record IsRepeated (m : MemberView) (reading : ℕ) (w : WriteBody) : Type 0 where
  pub opens : IsOpen m reading w
  pub older : w.sequence ≤ last_in m.lasts w.session

abbrev pub Judges : MemberView → ℕ → WriteBody → Judgement → Type 0
Judges m reading w Taken = IsTaken m reading w
Judges m reading w Repeated = IsRepeated m reading w
Judges m reading w Refused = IsOpen m reading w → ⊥

-- reads go to this member: A (false), or B (true)
abbrev pub IsReadAt : ℕ → Bool → Type 0
IsReadAt mode false = IsReadAtA mode
IsReadAt mode true = IsReadAtA mode → ⊥

-- so many sectors from one on lie in the device, behind the label, and are at least one
pub record LieIn (m : MemberView) (place sectors : ℕ) : Type 0 where
  pub behind_label : 1 ≤ place
  pub some : 1 ≤ sectors
  pub within : place + sectors ≤ room_in m

-- A read is answered: the member acts in its epoch, and is the one that reads go to.
pub record IsReadHere (m : MemberView) (r : ReadBody) : Type 0 where
  pub row : DeviceRow
  pub acts : IsActing m r.device r.epoch row
  pub reads_here : IsReadAt row.mode (is_second m)
  pub inside : LieIn m r.place r.sectors

-- A piece of a copy is taken: the member acts in its epoch, and is the copy's target.
pub record IsCopiedHere (m : MemberView) (c : CopyBody) : Type 0 where
  pub row : DeviceRow
  pub acts : IsActing m c.device c.epoch row
  pub target : row.mode ≡ copy_from (not (is_second m))
  pub inside : LieIn m c.place (length c.bytes / 512)

-- The current piece of a copy was acknowledged: the member acts in that epoch, and is the copy's source.
pub record IsNoted (m : MemberView) (c : CopiedBody) (row : DeviceRow) : Type 0 where
  pub acts : IsActing m c.device c.epoch row
  pub source : row.mode ≡ copy_from (is_second m)
  pub current : c.place ≡ m.place
