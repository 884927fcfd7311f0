-- What every call on a rack keeps: no count of faults falls, the sizes stay, and a rack that tells what its disks hold
-- goes on to tell it. What it counts: a fault in all (and of its disk, where the call is on one), success nothing, and
-- want of memory nothing.
use Rattle.std.specs.Prelude.{◌≡◌, ℕ, Result, OnOk, OnErr, IsErrOf}
use Rattle.bx_base.specs.Faults.{Rose}
use Rattle.bx_disk.specs.Counts.{NoneFalls, NoneRose, BothRose}
use Rattle.bx_disk.specs.declared.rack.Rack as racks
use Rattle.bx_disk.specs.declared.fault.DiskFault.{DiskFault}
use Rattle.bx_disk.specs.declared.fault.RackError.{RackError}
use Rattle.bx_disk.specs.declared.fault.RackError.TheVariants.{Fault, OutOfMemory}

-- a call on one disk, which a fault may end
pub record FaultsOn {R A : Type 0} (rack : racks.Ghosts R) (old new : R) (disk : ℕ) (result : Result A DiskFault) : Type 0 where
  pub later : NoneFalls (rack.faults old) (rack.faults new) (rack.faults_of old) (rack.faults_of new)
  pub sizes : (rack.state new).sizes ≡ (rack.state old).sizes
  pub keeps_telling : rack.tells old → rack.tells new
  pub cause : OnErr result (BothRose (rack.faults old) (rack.faults new) (rack.faults_of old) (rack.faults_of new) disk)
  pub no_fault : OnOk result (NoneRose (rack.faults old) (rack.faults new) (rack.faults_of old) (rack.faults_of new))

-- calls on several disks, which a fault may end
pub record Faults {R A : Type 0} (rack : racks.Ghosts R) (old new : R) (result : Result A DiskFault) : Type 0 where
  pub later : NoneFalls (rack.faults old) (rack.faults new) (rack.faults_of old) (rack.faults_of new)
  pub sizes : (rack.state new).sizes ≡ (rack.state old).sizes
  pub keeps_telling : rack.tells old → rack.tells new
  pub cause : OnErr result (Rose (rack.faults old) (rack.faults new))
  pub no_fault : OnOk result (NoneRose (rack.faults old) (rack.faults new) (rack.faults_of old) (rack.faults_of new))

-- a call on one disk, which a fault may end, or want of memory
pub record FailsOn {R A : Type 0} (rack : racks.Ghosts R) (old new : R) (disk : ℕ) (result : Result A RackError) : Type 0 where
  pub later : NoneFalls (rack.faults old) (rack.faults new) (rack.faults_of old) (rack.faults_of new)
  pub sizes : (rack.state new).sizes ≡ (rack.state old).sizes
  pub keeps_telling : rack.tells old → rack.tells new
  pub cause : IsErrOf result Fault → BothRose (rack.faults old) (rack.faults new) (rack.faults_of old) (rack.faults_of new) disk
  pub memory_counts : IsErrOf result OutOfMemory → NoneRose (rack.faults old) (rack.faults new) (rack.faults_of old) (rack.faults_of new)
  pub no_fault : OnOk result (NoneRose (rack.faults old) (rack.faults new) (rack.faults_of old) (rack.faults_of new))

-- calls on several disks, which a fault may end, or want of memory
pub record Fails {R A : Type 0} (rack : racks.Ghosts R) (old new : R) (result : Result A RackError) : Type 0 where
  pub later : NoneFalls (rack.faults old) (rack.faults new) (rack.faults_of old) (rack.faults_of new)
  pub sizes : (rack.state new).sizes ≡ (rack.state old).sizes
  pub keeps_telling : rack.tells old → rack.tells new
  pub cause : IsErrOf result Fault → Rose (rack.faults old) (rack.faults new)
  pub memory_counts : IsErrOf result OutOfMemory → NoneRose (rack.faults old) (rack.faults new) (rack.faults_of old) (rack.faults_of new)
  pub no_fault : OnOk result (NoneRose (rack.faults old) (rack.faults new) (rack.faults_of old) (rack.faults_of new))

-- calls on several disks, where this error speaks of faults, and another may hide one
pub record Counted {R A E : Type 0} (rack : racks.Ghosts R) (old new : R) (result : Result A E) (fault : E) : Type 0 where
  pub later : NoneFalls (rack.faults old) (rack.faults new) (rack.faults_of old) (rack.faults_of new)
  pub sizes : (rack.state new).sizes ≡ (rack.state old).sizes
  pub keeps_telling : rack.tells old → rack.tells new
  pub cause : IsErrOf result fault → Rose (rack.faults old) (rack.faults new)
  pub no_fault : OnOk result (NoneRose (rack.faults old) (rack.faults new) (rack.faults_of old) (rack.faults_of new))

-- a call on one disk, where this error speaks of faults, and another may hide one
pub record CountedOn {R A E : Type 0} (rack : racks.Ghosts R) (old new : R) (disk : ℕ) (result : Result A E) (fault : E) : Type 0 where
  pub later : NoneFalls (rack.faults old) (rack.faults new) (rack.faults_of old) (rack.faults_of new)
  pub sizes : (rack.state new).sizes ≡ (rack.state old).sizes
  pub keeps_telling : rack.tells old → rack.tells new
  pub cause : IsErrOf result fault → BothRose (rack.faults old) (rack.faults new) (rack.faults_of old) (rack.faults_of new) disk
  pub no_fault : OnOk result (NoneRose (rack.faults old) (rack.faults new) (rack.faults_of old) (rack.faults_of new))

-- calls on several disks, where this error speaks of faults, and any other end may hide one
pub record Kept {R A E : Type 0} (rack : racks.Ghosts R) (old new : R) (result : Result A E) (fault : E) : Type 0 where
  pub later : NoneFalls (rack.faults old) (rack.faults new) (rack.faults_of old) (rack.faults_of new)
  pub sizes : (rack.state new).sizes ≡ (rack.state old).sizes
  pub keeps_telling : rack.tells old → rack.tells new
  pub cause : IsErrOf result fault → Rose (rack.faults old) (rack.faults new)
