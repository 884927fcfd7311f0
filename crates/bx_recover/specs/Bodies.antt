-- The body of a record as bytes that were read.
use Rattle.std.specs.Prelude.{ℕ, List}
use Rattle.bx_disk.specs.Disks.{Image, sector_of}
use Rattle.bx_logs.specs.Bodies.{IsRecordAt}
use Rattle.bx_redo.specs.bx_volume.specs.Records.{Logged}

-- what disks hold whose sectors are these bytes
abbrev pub held_in : List ℕ → Image
held_in bytes disk sector = sector_of bytes sector

-- the bytes begin with this record, of a volume with so many areas
abbrev pub IsRecordIn : ℕ → List ℕ → Logged → Type 0
IsRecordIn areas bytes logged = IsRecordAt (held_in bytes) 0 0 areas logged

-- they begin with none
abbrev pub HasNoRecord : ℕ → List ℕ → Type 0
HasNoRecord areas bytes = (logged : Logged) → IsRecordIn areas bytes logged → ⊥
