-- What an audit keeps of a rack, and what it counts.
use Rattle.std.specs.Prelude.{◌≡◌, ◌≤◌, Result, IsErrOf}
use Rattle.bx_base.specs.Faults.{Rose}
use Rattle.bx_disk.specs.declared.rack.Rack as racks
use Rattle.bx_overlay.specs.declared.error.AuditError.{AuditError}
use Rattle.bx_overlay.specs.declared.error.AuditError.TheVariants.{DiskFault}
use Rattle.bx_overlay.specs.Refusals.{UnlessFault}

-- The disks stay as they are, and a rack that tells what they hold goes on to tell it. A fault is counted, and nothing else.
pub record ReadsDisks {R A : Type 0} (rack : racks.Ghosts R) (old new : R) (result : Result A AuditError) : Type 0 where
  pub stays : rack.state new ≡ rack.state old
  pub keeps_telling : rack.tells old → rack.tells new
  pub cause : IsErrOf result DiskFault → Rose (rack.faults old) (rack.faults new)
  pub later : rack.faults old ≤ rack.faults new
  pub counts : UnlessFault result (rack.faults new ≡ rack.faults old)
