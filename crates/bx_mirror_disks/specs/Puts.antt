-- Runs that are put on the disk of one member.
use Rattle.std.specs.Prelude.{◌≡◌, ℕ, ◌+◌, ◌/◌, ◌%◌, ◌≤◌, false, List, Contains, length}
use Rattle.bx_disk.specs.Disks.{Disks}
use Rattle.bx_facts.specs.Writes.{Sent, WritesIn}
use Rattle.bx_members.specs.Members.{IsBrought}
use Rattle.bx_records.specs.declared.runs.Run.{Run}

-- A run is of whole sectors, on this device, behind the label, and ends within so many sectors.
pub record LiesIn (device room : ℕ) (run : Run) : Type 0 where
  pub on : run.device ≡ device
  pub whole : length run.bytes % 512 ≡ 0
  pub behind_label : 1 ≤ run.place
  pub within : run.place + length run.bytes / 512 ≤ room

pub record AllLieIn (device room : ℕ) (runs : List Run) : Type 0 where
  pub each : (run : Run) → Contains runs run → LiesIn device room run

-- The runs stand on the disk. A sector to which they bring what it reads as stays as it was, and surely if it was sure.
pub record PutsRuns (disk device : ℕ) (runs : List Run) (old new : Disks) : Type 0 where
  pub written : (x : ℕ) (content : List ℕ) → WritesIn runs device x content → ((other : List ℕ) → WritesIn runs device x other → other ≡ content) → new.reads disk x ≡ content
  pub keeps : (x : ℕ) (content : List ℕ) → ((other : List ℕ) → WritesIn runs device x other → other ≡ content) → old.reads disk x ≡ content
      → (new.reads disk x ≡ content) × (old.unsure disk x ≡ false → new.unsure disk x ≡ false)

-- All that the runs bring to the device is brought by one of these writes, which isn't over.
pub record AreBrought (writes : List Sent) (greatest device : ℕ) (runs : List Run) : Type 0 where
  pub each : (x : ℕ) (content : List ℕ) → WritesIn runs device x content → IsBrought writes greatest device x content
