-- A write that is out: which members are still to be told of it, and when it is done.
use Rattle.std.specs.Prelude.{ℕ, ◌+◌, ◌*◌, ◌^◌, ◌<◌, ltb, ◌==◌, ◌&&◌, ◌||◌, not, Bool, true, false, List, [], ◌∷◌, length, Option, Some, None, if◌then◌else◌}
use Rattle.std.specs.List.{list_any}
use Rattle.bx_global.specs.Table.{greatest}
use Rattle.bx_records.specs.declared.runs.Run.{Run}
use Rattle.bx_rows.specs.Conditions.{Fits}
use Rattle.bx_rows.specs.declared.device.DeviceRow.{DeviceRow}
use Rattle.bx_mirror_client.specs.declared.sending.Ack.{Ack}
use Rattle.bx_mirror_client.specs.declared.sending.Sending.{Sending}

-- the number behind one, 0 where none is left
abbrev pub next_number : ℕ → ℕ
next_number number = if number == greatest then 0 else number + 1

-- Packets of runs have their kind, where it is a write's; else that of a body.
abbrev pub write_kind : ℕ → ℕ
write_kind kind = if ltb kind 14 || ltb 18 kind then 14 else kind

-- the members of a device, A (false) and B
abbrev pub member_at : ℕ → Bool → ℕ
member_at device false = 2 * device
member_at device true = 2 * device + 1

-- writes go to member A, or B, in a mode
abbrev pub writes_to : ℕ → Bool → Bool
writes_to mode false = (mode == 0) || (mode == 1)
writes_to mode true = (mode == 0) || (mode == 2)

abbrev pub is_ack : ℕ → ℕ → Ack → Bool
is_ack member epoch ack = (ack.member == member) && (ack.epoch == epoch)

-- a member has acknowledged in an epoch
abbrev pub is_acked : List Ack → ℕ → ℕ → Bool
is_acked acks member epoch = list_any (is_ack member epoch) acks

-- Writes go to a member of a device, and it hasn't acknowledged in the row's epoch.
abbrev pub is_missing : List Ack → ℕ → DeviceRow → Bool → Bool
is_missing acks device row second = writes_to row.mode second && not (is_acked acks (member_at device second) row.epoch)

-- some of the runs are on a device
abbrev pub has_runs : ℕ → List Run → Bool
has_runs device runs = list_any (λ run. run.device == device) runs

-- A device has acknowledged: writes go to one of its members at least, and none of those is missing.
abbrev pub is_row_done : List Ack → ℕ → DeviceRow → Bool
is_row_done acks device row = (writes_to row.mode false || writes_to row.mode true) && not (is_missing acks device row false || is_missing acks device row true)

-- So has each device that has some of the runs, of those from one on.
abbrev pub is_done_from : List Ack → List Run → ℕ → List DeviceRow → Bool
is_done_from acks runs device [] = true
is_done_from acks runs device (row ∷ rows) = (not (has_runs device runs) || is_row_done acks device row) && is_done_from acks runs (device + 1) rows

abbrev pub is_done : Sending → List DeviceRow → Bool
is_done s rows = is_done_from s.acks s.runs.1 0 rows

-- The numbers of a write fit a packet, and so does the number of its runs.
pub record FitNumbers (s : Sending) : Type 0 where
  pub session : Fits s.session
  pub sequence : Fits s.sequence
  pub until : Fits s.until
  pub count : length s.runs.1 < 2 ^ 32

abbrev pub FitIfOut : Option Sending → Type 0
FitIfOut None = Unit {0}
FitIfOut (Some s) = FitNumbers s
