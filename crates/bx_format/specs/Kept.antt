-- What a call keeps that makes the disks of a rack anew, and what it counts.
use Rattle.std.specs.Prelude.{Result, OnOk, IsErrOf}
use Rattle.bx_base.specs.Faults.{Rose}
use Rattle.bx_disk.specs.Counts.{NoneFalls, NoneRose}
use Rattle.bx_disk.specs.declared.rack.Rack as racks
use Rattle.bx_disk.specs.declared.fault.RackError.{RackError}
use Rattle.bx_disk.specs.declared.fault.RackError.TheVariants.{Fault, OutOfMemory}

-- as other calls do, but that the disks may have other sizes behind it
pub record FailsAnew {R A : Type 0} (rack : racks.Ghosts R) (old new : R) (result : Result A RackError) : Type 0 where
  pub later : NoneFalls (rack.faults old) (rack.faults new) (rack.faults_of old) (rack.faults_of new)
  pub keeps_telling : rack.tells old → rack.tells new
  pub cause : IsErrOf result Fault → Rose (rack.faults old) (rack.faults new)
  pub memory_counts : IsErrOf result OutOfMemory → NoneRose (rack.faults old) (rack.faults new) (rack.faults_of old) (rack.faults_of new)
  pub no_fault : OnOk result (NoneRose (rack.faults old) (rack.faults new) (rack.faults_of old) (rack.faults_of new))
