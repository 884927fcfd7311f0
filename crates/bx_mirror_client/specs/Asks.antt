-- A read that is out, or whose answer wasn't taken yet.
use Rattle.std.specs.Prelude.{ℕ, ◌*◌, ◌^◌, ◌<◌, ◌==◌, ◌&&◌, not, Bool, false, List, length, Option, Some, None, is_some, if◌then◌else◌}
use Rattle.bx_facts.specs.Writes.{Asked}
use Rattle.bx_rows.specs.Conditions.{Fits}
use Rattle.bx_rows.specs.declared.device.DeviceRow.{DeviceRow}
use Rattle.bx_mirror_packets.specs.declared.message.DataBody.{DataBody}
use Rattle.bx_mirror_client.specs.declared.asking.Asking.{Asking}

-- An answer may come: none did, and a number was left for the read.
abbrev pub is_awaited : Asking → Bool
is_awaited a = not (is_some a.answer) && not (a.tag == 0)

-- An answer is one to the read: session, tag and device are the read's, the epoch is that of the device's row, and it has as many bytes as were asked for.
abbrev pub is_answer : DeviceRow → Asking → DataBody → Bool
is_answer row a d = (d.session == a.session) && ((d.tag == a.tag) && ((d.device == a.device) && ((d.epoch == row.epoch) && (length d.bytes == 512 * a.sectors))))

abbrev pub fits : Option DeviceRow → Asking → DataBody → Bool
fits None a d = false
fits (Some row) a d = is_answer row a d

-- what is read, and the answer that came
abbrev pub asked_in : Option Asking → Option Asked
asked_in None = None
asked_in (Some a) = Some (record { device = a.device; place = a.place; count = a.sectors })

abbrev pub answer_in : Option Asking → Option (List ℕ)
answer_in None = None
answer_in (Some a) = a.answer

-- once its answer was taken the read is over
abbrev pub asks_left : Option Asking → Option Asking
asks_left None = None
asks_left (Some a) = if is_some a.answer then None else Some a

-- The numbers of a read fit a packet.
pub record FitsRead (a : Asking) : Type 0 where
  pub session : Fits a.session
  pub device : a.device < 2 ^ 32
  pub tag : Fits a.tag
  pub place : Fits a.place
  pub sectors : a.sectors < 2 ^ 32

abbrev pub FitIfAsked : Option Asking → Type 0
FitIfAsked None = Unit {0}
FitIfAsked (Some a) = FitsRead a
