-- What calls keep of the members that an audit reads.
use Rattle.std.specs.Prelude.{◌≡◌, ℕ, ◌<◌, Bool, false}
use Rattle.bx_disk.specs.Disks.{Image, Disks}
use Rattle.bx_global.specs.declared.state.GlobalState.{GlobalState}
use Rattle.bx_rows.specs.Modes.{IsSource}
use Rattle.bx_facts.specs.Disks.{IsKept}
use Rattle.bx_facts.specs.Writes.{IsSourceIn, member_disk}

-- All sectors of members that an audit reads are kept, and of replicas.
pub record KeepsSources (s : GlobalState) (old new : Disks) : Type 0 where
  pub members : (device : ℕ) (second : Bool) (sector : ℕ) → IsSourceIn s device second → IsKept old new (member_disk device second) sector
  pub replicas : (d sector : ℕ) → d < 3 → IsKept old new d sector

-- The image has what was sure on them.
pub record HasSources (s : GlobalState) (old : Disks) (image : Image) : Type 0 where
  pub members : (device : ℕ) (second : Bool) (sector : ℕ) → IsSourceIn s device second → old.unsure (member_disk device second) sector ≡ false
      → image (member_disk device second) sector ≡ old.reads (member_disk device second) sector
  pub replicas : (d sector : ℕ) → d < 3 → old.unsure d sector ≡ false → image d sector ≡ old.reads d sector

-- The disk is that of a member of the device that an audit reads, in this mode.
pub record IsSourceDisk (mode device disk : ℕ) : Type 0 where
  pub second : Bool
  pub is : disk ≡ member_disk device second
  pub source : IsSource mode second
