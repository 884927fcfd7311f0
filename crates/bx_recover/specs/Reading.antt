-- What stands in a log, and what was read there.
use Rattle.std.specs.Prelude.{◌≡◌, ℕ, ◌+◌, ◌<◌, List, length}
use Rattle.bx_disk.specs.Disks.{Image, sector_of}
use Rattle.bx_places.specs.Places.{body_place}
use Rattle.bx_redo.specs.bx_volume.specs.Overlay.{filled_of}
use Rattle.bx_redo.specs.bx_volume.specs.Records.{Logged, gate_of}
use Rattle.bx_recover.specs.Done.{RecoveryStep, WasRead}
use Rattle.bx_recover.specs.Recovering.{RecoveryView, reads_body}

-- all gates stand as they were read
abbrev pub AreGates : Image → ℕ → ℕ → List ℕ → Type 0
AreGates held devices slot gates = (gate : ℕ) → gate < 8 → gate_of held devices slot gate ≡ sector_of gates gate

-- Whatever came of a body of a log's record, of which the newest comes first, stands there, as far as the record fills it.
abbrev pub AreBodies : Image → RecoveryView → List RecoveryStep → List Logged → Type 0
AreBodies held recovery steps records =
    (body sector : ℕ) (bytes : List ℕ) → WasRead steps (reads_body recovery body) bytes → body < length records → sector < filled_of records body
    → held (body_place recovery.slot body recovery.devices).0 ((body_place recovery.slot body recovery.devices).1 + sector) ≡ sector_of bytes sector
