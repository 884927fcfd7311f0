-- What calls keep of the disks of members, while they take these writes and no other.
use Rattle.std.specs.Prelude.{◌≡◌, ℕ, ◌<◌, Bool, false, List, Contains}
use Rattle.bx_disk.specs.Disks.{Image, Disks}
use Rattle.bx_records.specs.declared.runs.Run.{Run}
use Rattle.bx_facts.specs.Disks.{IsKept}
use Rattle.bx_facts.specs.Writes.{Sent, WritesTo, IsOver, IsOnly, member_disk}

-- One of the writes has the run, and isn't over.
pub record IsTaken (writes : List Sent) (greatest : ℕ) (run : Run) : Type 0 where
  pub write : Sent
  pub there : Contains writes write
  pub has : Contains write.runs run
  pub not_over : IsOver greatest write → ⊥

-- One of the writes, which isn't over, brings these bytes there.
pub record IsBrought (writes : List Sent) (greatest device sector : ℕ) (content : List ℕ) : Type 0 where
  pub write : Sent
  pub there : Contains writes write
  pub brings : WritesTo write device sector content
  pub not_over : IsOver greatest write → ⊥

-- Where the writes bring nothing else, what a member has it goes on having, and surely so if it did. The disks of replicas are kept.
pub record KeepsMembers (writes : List Sent) (greatest : ℕ) (old new : Disks) : Type 0 where
  pub reads : (device sector : ℕ) (second : Bool) (content : List ℕ) → IsOnly writes greatest device sector content
      → old.reads (member_disk device second) sector ≡ content → new.reads (member_disk device second) sector ≡ content
  pub sure : (device sector : ℕ) (second : Bool) (content : List ℕ) → IsOnly writes greatest device sector content
      → old.reads (member_disk device second) sector ≡ content → old.unsure (member_disk device second) sector ≡ false
      → new.unsure (member_disk device second) sector ≡ false
  pub replicas : (d sector : ℕ) → d < 3 → IsKept old new d sector

-- The image has what was sure on members, where the writes bring nothing else, and all that was on replicas.
pub record HasMembers (writes : List Sent) (greatest : ℕ) (old : Disks) (image : Image) : Type 0 where
  pub members : (device sector : ℕ) (second : Bool) (content : List ℕ) → IsOnly writes greatest device sector content
      → old.reads (member_disk device second) sector ≡ content → old.unsure (member_disk device second) sector ≡ false
      → image (member_disk device second) sector ≡ content
  pub replicas : (d sector : ℕ) → d < 3 → old.unsure d sector ≡ false → image d sector ≡ old.reads d sector
