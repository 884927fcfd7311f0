-- What a call keeps where a fault of a disk isn't all that may end it as one: it says the cause apart.
use Rattle.std.specs.Prelude.{◌≡◌, Result, OnOk, IsErrOf}
use Rattle.bx_disk.specs.Counts.{NoneFalls, NoneRose}
use Rattle.bx_disk.specs.declared.rack.Rack as racks
use Rattle.bx_disk.specs.declared.fault.RackError.{RackError}
use Rattle.bx_disk.specs.declared.fault.RackError.TheVariants.{OutOfMemory}

-- No count of faults falls, success and want of memory count none, the sizes stay, and a rack goes on to tell what its disks hold.
pub record KeepsCounts {R A : Type 0} (rack : racks.Ghosts R) (old new : R) (result : Result A RackError) : Type 0 where
  pub later : NoneFalls (rack.faults old) (rack.faults new) (rack.faults_of old) (rack.faults_of new)
  pub sizes : (rack.state new).sizes ≡ (rack.state old).sizes
  pub keeps_telling : rack.tells old → rack.tells new
  pub memory_counts : IsErrOf result OutOfMemory → NoneRose (rack.faults old) (rack.faults new) (rack.faults_of old) (rack.faults_of new)
  pub no_fault : OnOk result (NoneRose (rack.faults old) (rack.faults new) (rack.faults_of old) (rack.faults_of new))
