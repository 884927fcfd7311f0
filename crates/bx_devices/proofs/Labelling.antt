-- A disk gets its label, and is synced.
use Rattle.std.proofs.Common.{◌≡◌, ℕ, ◌+◌, Result, subst}
use Rattle.std.specs.Prelude.{OnOk}
use Rattle.bx_calls.specs.Calls.{HasSure, KeepsAll, KeepsSure, LeavesOnly}
use Rattle.bx_calls.specs.Regions.{IsSynced}
use Rattle.bx_disk.specs.Disks.{IsImage}
use Rattle.bx_disk.specs.declared.fault.RackError.{RackError}
use Rattle.bx_disk.specs.declared.rack.Rack as racks
use Rattle.bx_facts.specs.Writes.{Made, label_on}
use Rattle.bx_layout.specs.Labels.{SpellsLabel}
use Rattle.bx_mirror_member.specs.Standing.{MemberView, disk_in, new_member}
use Rattle.bx_devices.specs.Disks.{Labels}

module _ {R A : Type 0} (rack : racks.Ghosts R) (old new : R) (made : Made) (n : ℕ) (result : Result A RackError) where
  -- what a member's restart says is said of its disk
  pub member_labels : (m : MemberView) → m ≡ new_member n made
      → (rack.tells old → OnOk result (IsSynced (rack.state new) (disk_in m)))
      → (rack.tells old → OnOk result (SpellsLabel (label_on m.made (disk_in m)) ((rack.state new).reads (disk_in m) 0)))
      → (rack.tells old → SpellsLabel (label_on m.made (disk_in m)) ((rack.state old).reads (disk_in m) 0) → KeepsAll (rack.state old) (rack.state new) (disk_in m))
      → (rack.tells old → KeepsSure (rack.state old) (rack.state new) (disk_in m) 0 1)
      → (rack.tells old → LeavesOnly (rack.moment old) (rack.moment new) (rack.left_since old) (rack.left_since new) (HasSure (rack.state old) (disk_in m) 0 1))
      → (rack.tells old → SpellsLabel (label_on m.made (disk_in m)) ((rack.state old).reads (disk_in m) 0) → LeavesOnly (rack.moment old) (rack.moment new) (rack.left_since old) (rack.left_since new) (IsImage (rack.state old)))
      → Labels rack old new (label_on made (3 + n)) (3 + n) result
  member_labels m e one two three four five six = record {
    synced = subst (λ (j : MemberView). rack.tells old → OnOk result (IsSynced (rack.state new) (disk_in j))) e one;
    label_is = subst (λ (j : MemberView). rack.tells old → OnOk result (SpellsLabel (label_on j.made (disk_in j)) ((rack.state new).reads (disk_in j) 0))) e two;
    had_label = subst (λ (j : MemberView). rack.tells old → SpellsLabel (label_on j.made (disk_in j)) ((rack.state old).reads (disk_in j) 0) → KeepsAll (rack.state old) (rack.state new) (disk_in j)) e three;
    keeps = subst (λ (j : MemberView). rack.tells old → KeepsSure (rack.state old) (rack.state new) (disk_in j) 0 1) e four;
    any_moment = subst (λ (j : MemberView). rack.tells old → LeavesOnly (rack.moment old) (rack.moment new) (rack.left_since old) (rack.left_since new) (HasSure (rack.state old) (disk_in j) 0 1)) e five;
    had_moment = subst (λ (j : MemberView). rack.tells old → SpellsLabel (label_on j.made (disk_in j)) ((rack.state old).reads (disk_in j) 0) → LeavesOnly (rack.moment old) (rack.moment new) (rack.left_since old) (rack.left_since new) (IsImage (rack.state old))) e six;
  }
