-- What every read of blocks asks, keeps and counts.
use Rattle.std.specs.Prelude.{◌<◌, ◌≡◌, ◌≤◌, ℕ, Result, OnOk, IsErrOf}
use Rattle.bx_base.specs.Faults.{Rose}
use Rattle.bx_disk.specs.declared.fault.RackError.{RackError}
use Rattle.bx_disk.specs.declared.fault.RackError.TheVariants.{Fault, OutOfMemory}
use Rattle.bx_homes.specs.declared.blocks.Blocks as givers

-- the blocks of a volume of so many areas can be read
pub record CanRead {B : Type 0} (blocks : givers.Ghosts B) (areas : ℕ) (now : B) : Type 0 where
  pub ready : blocks.ready now
  pub areas_are : blocks.areas now ≡ areas
  pub most : areas ≤ 64

-- those of one of its areas can be
pub record CanReadArea {B : Type 0} (blocks : givers.Ghosts B) (area : ℕ) (now : B) : Type 0 where
  pub ready : blocks.ready now
  pub there : area < blocks.areas now
  pub most : blocks.areas now ≤ 64

-- A read that a fault may end, or want of memory: a fault is counted, and nothing else. The volume has as many areas as before, it can be read on, and
-- what tells the blocks goes on to tell them.
pub record ReadsBlocks {B A : Type 0} (blocks : givers.Ghosts B) (old new : B) (result : Result A RackError) : Type 0 where
  pub cause : IsErrOf result Fault → Rose (blocks.faults old) (blocks.faults new)
  pub later : blocks.faults old ≤ blocks.faults new
  pub memory_counts : IsErrOf result OutOfMemory → blocks.faults new ≡ blocks.faults old
  pub no_fault : OnOk result (blocks.faults new ≡ blocks.faults old)
  pub keeps_areas : blocks.areas new ≡ blocks.areas old
  pub keeps_lender : blocks.lender new ≡ blocks.lender old
  pub keeps_ready : blocks.ready new
  pub keeps_telling : blocks.tells old → blocks.tells new
