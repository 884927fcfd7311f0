-- Writes to devices, and what sectors hold.
use Rattle.std.specs.Prelude.{◌≡◌, ℕ, ◌+◌, ◌-◌, ◌*◌, ◌/◌, ◌%◌, ◌<◌, ◌≤◌, ◌==◌, ◌⊎◌, not, Bool, true, false, List, [], ◌∷◌, filter, length, Contains, Option, Some, None, IfSome, slice_get, slice_index}
use Rattle.bx_records.specs.bx_base.specs.declared.names.Actor.{Actor}
use Rattle.bx_calls.specs.bx_disk.specs.Disks.{Image, Disks, sector_of}
use Rattle.bx_global.specs.declared.change.Change.{Change}
use Rattle.bx_global.specs.declared.state.GlobalState.{GlobalState}
use Rattle.bx_records.specs.bx_layout.specs.Labels.{SpellsLabel}
use Rattle.bx_records.specs.bx_layout.specs.declared.label.Label.{Label}
use Rattle.bx_records.specs.bx_places.specs.Places.{member_sectors}
use Rattle.bx_post.specs.declared.packets.Letter.{Letter}
use Rattle.bx_records.specs.declared.runs.Run.{Run}
use Rattle.bx_global.specs.bx_rows.specs.declared.device.DeviceRow.{DeviceRow}
use Rattle.bx_global.specs.bx_rows.specs.Modes.{IsSource, only_a, only_b}
use Rattle.bx_facts.specs.declared.input.Input.{Input}
use Rattle.bx_facts.specs.Chains.{LivesIn}
use Rattle.bx_facts.specs.Pasts.{Told, found_told, heard, opening_told, told_crashed, told_failed, told_grown, told_restarted, told_with}

-- what a store is made for
pub record Made : Type 0 where
  pub volume : ℕ
  pub nodes : ℕ
  pub devices : ℕ
  pub areas : ℕ

-- a write: whose it is, until when it is taken, and what it writes
pub record Sent : Type 0 where
  pub session : ℕ
  pub until : ℕ
  pub runs : List Run

-- a read: of which sectors
pub record Asked : Type 0 where
  pub device : ℕ
  pub place : ℕ
  pub count : ℕ

-- What was done with a store, beside what it was told: the writes that members may still take, of ended sessions too.
pub record StorePast : Type 0 where
  pub told : Told
  pub writes : List Sent

abbrev pub opening_store : GlobalState → StorePast
opening_store s = record { told = opening_told s; writes = [] }

abbrev pub found_store : GlobalState → ℕ → StorePast
found_store s boot = record { told = found_told s boot; writes = [] }

abbrev pub store_with : StorePast → List Letter → StorePast
store_with past out = record past { told = told_with past.told out }

abbrev pub store_heard : StorePast → Actor → ℕ → Input → Option Change → StorePast
store_heard past at index input change = record past { told = heard past.told at index input change }

abbrev pub store_crashed : StorePast → Actor → StorePast
store_crashed past who = record past { told = told_crashed past.told who }

abbrev pub store_restarted : StorePast → Actor → ℕ → ℕ → StorePast
store_restarted past who boot reading = record past { told = told_restarted past.told who boot reading }

abbrev pub store_failed : StorePast → Actor → ℕ → ℕ → StorePast
store_failed past who boot reading = record past { told = told_failed past.told who boot reading }

abbrev pub store_grown : StorePast → Change → StorePast
store_grown past change = record past { told = told_grown past.told change }

-- a write was sent; of a session none may be taken any more
abbrev pub writing : StorePast → Sent → StorePast
writing past write = record past { writes = write ∷ past.writes }

abbrev pub without_session : StorePast → ℕ → StorePast
without_session past session = record past { writes = filter (λ write. not (write.session == session)) past.writes }

-- the disk of a member: A (false) or B (true)
abbrev pub member_disk : ℕ → Bool → ℕ
member_disk device false = 3 + 2 * device
member_disk device true = 4 + 2 * device

-- how many sectors of a disk a store may need
abbrev pub store_room : Made → ℕ
store_room made = member_sectors made.devices made.areas

-- a member is one that an audit reads, in this state
abbrev pub IsSourceRow : Option DeviceRow → Bool → Type 0
IsSourceRow None second = ⊥
IsSourceRow (Some row) second = IsSource row.mode second

abbrev pub IsSourceIn : GlobalState → ℕ → Bool → Type 0
IsSourceIn s device second = IsSourceRow (slice_get s.devices device) second

-- A device is there, and each of its members that an audit reads has this in a sector, and surely.
pub record IsSettled (disks : Disks) (s : GlobalState) (device sector : ℕ) (content : List ℕ) : Type 0 where
  pub there : device < length s.devices
  pub reads : (second : Bool) → IsSourceIn s device second → disks.reads (member_disk device second) sector ≡ content
  pub sure : (second : Bool) → IsSourceIn s device second → disks.unsure (member_disk device second) sector ≡ false

-- a run has the sector, and this is what it writes there
pub record Writes (run : Run) (device sector : ℕ) (content : List ℕ) : Type 0 where
  pub on : run.device ≡ device
  pub from : run.place ≤ sector
  pub below : sector < run.place + length run.bytes / 512
  pub is : sector_of run.bytes (sector - run.place) ≡ content

-- one of the runs does
abbrev pub WritesIn : List Run → ℕ → ℕ → List ℕ → Type 0
WritesIn runs device sector content = (run : Run) × Contains runs run × Writes run device sector content

abbrev pub WritesTo : Sent → ℕ → ℕ → List ℕ → Type 0
WritesTo write device sector content = WritesIn write.runs device sector content

-- A run is of whole sectors, at least one, and lies in a device of the volume, behind the label.
pub record IsRun (made : Made) (run : Run) : Type 0 where
  pub device : run.device < made.devices
  pub behind_label : 1 ≤ run.place
  pub some : 1 ≤ length run.bytes / 512
  pub whole : length run.bytes % 512 ≡ 0
  pub within : run.place + length run.bytes / 512 ≤ store_room made

-- Runs that may be written: each is a run, and no sector is written with two contents.
pub record AreRuns (made : Made) (runs : List Run) : Type 0 where
  pub each : (run : Run) → Contains runs run → IsRun made run
  pub once : (device sector : ℕ) (content other : List ℕ) → WritesIn runs device sector content → WritesIn runs device sector other → other ≡ content

-- No member takes the write any more.
abbrev pub IsOver : ℕ → Sent → Type 0
IsOver greatest write = write.until + 500 < greatest

-- What members may still write there is this.
pub record IsOnly (writes : List Sent) (greatest device sector : ℕ) (content : List ℕ) : Type 0 where
  pub each : (write : Sent) (other : List ℕ) → Contains writes write → WritesTo write device sector other → (other ≡ content) ⊎ IsOver greatest write

-- A write may be sent: each one that members may still take to one of its sectors is of the same session, or is over and its
-- session isn't live.
pub record MayWrite (writes : List Sent) (greatest : ℕ) (s : GlobalState) (new : Sent) : Type 0 where
  pub each : (write : Sent) (device sector : ℕ) (content other : List ℕ) → Contains writes write → WritesTo write device sector other → WritesTo new device sector content
      → (write.session ≡ new.session) ⊎ (IsOver greatest write × (LivesIn s write.session → ⊥))

-- All that is promised of sectors is promised afterwards, where members write nothing else there.
pub record GoesOn (writes : List Sent) (greatest : ℕ) (asked : ℕ → Option Asked) (settled settled_then reads reads_then : ℕ → ℕ → List ℕ → Type 0) (stands stands_then : ℕ → ℕ → List ℕ → ℕ → Type 0) : Type 0 where
  pub settles : (device sector : ℕ) (content : List ℕ) → IsOnly writes greatest device sector content → settled device sector content → settled_then device sector content
  pub standing : (device sector : ℕ) (content : List ℕ) (index : ℕ) → IsOnly writes greatest device sector content → stands device sector content index → stands_then device sector content index
  pub reading : (reader sector : ℕ) (content : List ℕ) (asks : Asked) → asked reader ≡ Some asks → IsOnly writes greatest asks.device sector content → reads reader sector content → reads_then reader sector content

-- An image has what was settled, the labels that were sure on the members that an audit reads, and what was sure on the disks of
-- replicas.
pub record HasSettled (writes : List Sent) (greatest : ℕ) (settled : ℕ → ℕ → List ℕ → Type 0) (old : Disks) (s : GlobalState) (image : Image) : Type 0 where
  pub has : (device sector : ℕ) (content : List ℕ) (second : Bool) → IsOnly writes greatest device sector content → settled device sector content
      → IsSourceIn s device second → image (member_disk device second) sector ≡ content
  pub labels : (device : ℕ) (second : Bool) → IsSourceIn s device second → old.unsure (member_disk device second) 0 ≡ false
      → image (member_disk device second) 0 ≡ old.reads (member_disk device second) 0
  pub replicas : (d sector : ℕ) → d < 3 → old.unsure d sector ≡ false → image d sector ≡ old.reads d sector

-- What a write brings stands in each of its sectors, for each reader that knows this index.
pub record IsDone (stands : ℕ → ℕ → List ℕ → ℕ → Type 0) (index : ℕ) (write : Sent) : Type 0 where
  pub each : (device sector : ℕ) (content : List ℕ) → WritesTo write device sector content → stands device sector content index

-- the device needs the other member alone
abbrev pub only_other : Bool → ℕ
only_other false = only_b
only_other true = only_a

abbrev pub IsOnlyOtherRow : Option DeviceRow → Bool → Type 0
IsOnlyOtherRow None second = ⊥
IsOnlyOtherRow (Some row) second = row.mode ≡ only_other second

abbrev pub IsOnlyOther : GlobalState → ℕ → Bool → Type 0
IsOnlyOther s device second = IsOnlyOtherRow (slice_get s.devices device) second

-- the label of a disk of the volume
abbrev pub label_on : Made → ℕ → Label
label_on made disk = record { volume = made.volume; disk = disk; devices = made.devices; areas = made.areas }

-- Each member that an audit would read has its label, and surely, and its disk has all sectors of a member.
pub record HasLabels (made : Made) (disks : Disks) (s : GlobalState) : Type 0 where
  pub reads : (device : ℕ) (second : Bool) → IsSourceIn s device second → SpellsLabel (label_on made (member_disk device second)) (disks.reads (member_disk device second) 0)
  pub sure : (device : ℕ) (second : Bool) → IsSourceIn s device second → disks.unsure (member_disk device second) 0 ≡ false
  pub long : (device : ℕ) (second : Bool) → IsSourceIn s device second → store_room made ≤ slice_index disks.sizes (member_disk device second)

-- The state is one of as many devices as the store is made for, and its members are labelled.
pub record IsOfStore (made : Made) (disks : Disks) (s : GlobalState) : Type 0 where
  pub devices : length s.devices ≡ made.devices
  pub labels : HasLabels made disks s

-- No device's row names a boot above this one.
pub record NamesUpTo (boot : ℕ) (s : GlobalState) : Type 0 where
  pub each : (device : ℕ) → IfSome (slice_get s.devices device) (λ row. (row.boot_a ≤ boot) × (row.boot_b ≤ boot))
