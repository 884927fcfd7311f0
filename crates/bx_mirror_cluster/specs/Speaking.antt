-- What the letters of a stream say.
use Rattle.std.specs.Prelude.{◌≡◌, ℕ, ◌/◌, ◌%◌, ◌^◌, ◌<◌, ◌≤◌, Bool, List, length, Some, slice_get}
use Rattle.std.specs.List.{AllByRecursion}
use Rattle.bx_facts.specs.Writes.{AreRuns, Made, WritesIn}
use Rattle.bx_records.specs.declared.runs.Run.{Run}
use Rattle.bx_rows.specs.Conditions.{Fits}
use Rattle.bx_rows.specs.Modes.{IsWritten}
use Rattle.bx_mirror_packets.specs.declared.message.ReadBody.{ReadBody}
use Rattle.bx_rows.specs.declared.device.DeviceRow.{DeviceRow}
use Rattle.bx_mirror_laws.specs.Sides.{WriteLetter}
use Rattle.bx_mirror_packets.specs.Parting.{runs_on}
use Rattle.bx_mirror_client.specs.Sends.{FitNumbers}
use Rattle.bx_mirror_client.specs.Telling.{HasRuns}
use Rattle.bx_mirror_client.specs.declared.asking.Asking.{Asking}
use Rattle.bx_mirror_client.specs.declared.sending.Sending.{Sending}

-- A run's place and its number of sectors fit a packet, and it is of whole sectors, at least one.
pub record IsSpoken (run : Run) : Type 0 where
  pub place : Fits run.place
  pub whole : length run.bytes % 512 ≡ 0
  pub some : 1 ≤ length run.bytes / 512
  pub count : length run.bytes / 512 < 2 ^ 32

-- The numbers of a write fit a packet, and its runs do.
pub record FitsPacket (s : Sending) : Type 0 where
  pub numbers : FitNumbers s
  pub runs : AllByRecursion IsSpoken s.runs.1

-- A write may be told: its numbers fit a packet, and its runs are ones of the volume.
pub record IsSendable (made : Made) (s : Sending) : Type 0 where
  pub packet : FitsPacket s
  pub runs : AreRuns made s.runs.1

-- Runs bring something to a device, and to no sector of it two contents.
pub record BringsOnce (device : ℕ) (runs : List Run) : Type 0 where
  pub some : (x : ℕ) × ((content : List ℕ) × WritesIn runs device x content)
  pub once : (x : ℕ) (content other : List ℕ) → WritesIn runs device x content → WritesIn runs device x other → other ≡ content

-- A read's packet says what is asked: its session, its number, and its sectors.
pub record IsOfRead (a : Asking) (r : ReadBody) : Type 0 where
  pub session : r.session ≡ a.session
  pub tag : r.tag ≡ a.tag
  pub device : r.device ≡ a.device
  pub place : r.place ≡ a.place
  pub sectors : r.sectors ≡ a.sectors

-- What a member of a device is told of a write, as the laws of devices speak of it.
abbrev pub letter_of : Sending → ℕ → DeviceRow → Bool → WriteLetter
letter_of s device row second = record { at = second; session = s.session; epoch = row.epoch; sequence = s.sequence; until = s.until; runs = runs_on device s.runs.1 }

-- A letter is one of a write to a member of this device, which has some of the runs and where that member is written.
pub record IsLetterOf (s : Sending) (device : ℕ) (rows : List DeviceRow) (l : WriteLetter) : Type 0 where
  pub runs : HasRuns device s.runs.1
  pub row : DeviceRow
  pub there : slice_get rows device ≡ Some row
  pub written : IsWritten row.mode l.at
  pub is : l ≡ letter_of s device row l.at
