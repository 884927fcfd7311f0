-- Runs that are put are worked on a member's disk.
use Rattle.std.proofs.Common.{◌≡◌, ℕ, ◌-◌, Bool, List, sym, ◌∙◌, subst}
use Rattle.bx_calls.specs.Calls.{HasSure, KeepsSure, LeavesOnly}
use Rattle.bx_disk.specs.declared.rack.Rack as racks
use Rattle.bx_facts.specs.Writes.{Sent, member_disk}
use Rattle.bx_members.specs.Members.{HasMembers, KeepsMembers}
use Rattle.bx_mirror_disks.proofs.Putting.{lone_brought}
use Rattle.bx_mirror_disks.specs.Puts.{AllLieIn, AreBrought, PutsRuns}
use Rattle.bx_mirror_member.specs.Standing.{MemberView, device_in, disk_in, is_second, room_in}
use Rattle.bx_mirror_server.specs.Working.{Works, alone}
use Rattle.bx_mirror_server.proofs.Places.{own_disk}
use Rattle.bx_records.specs.declared.runs.Run.{Run}

module _ {R : Type 0} (rack : racks.Ghosts R) (old new : R) (m : MemberView) (runs : List Run) (disk room : ℕ) (disk_is : disk ≡ disk_in m) (room_is : room ≡ room_in m) (lie : AllLieIn (device_in m) (room_in m) runs) where
  own : disk ≡ member_disk (device_in m) (is_second m)
  own = disk_is ∙ own_disk m

  lie_here : AllLieIn (device_in m) room runs
  lie_here = subst (λ (n : ℕ). AllLieIn (device_in m) n runs) (sym room_is) lie

  -- what was put is what the input brings
  pub works_put : (Brings : List Run → Type 0) → Brings runs
      → ((writes : List Sent) (greatest device : ℕ) (second : Bool) → rack.tells old → disk ≡ member_disk device second → AllLieIn device room runs → AreBrought writes greatest device runs → KeepsMembers writes greatest (rack.state old) (rack.state new))
      → ((writes : List Sent) (greatest device : ℕ) (second : Bool) → rack.tells old → disk ≡ member_disk device second → AllLieIn device room runs → AreBrought writes greatest device runs
      → LeavesOnly (rack.moment old) (rack.moment new) (rack.left_since old) (rack.left_since new) (HasMembers writes greatest (rack.state old)))
      → (rack.tells old → KeepsSure (rack.state old) (rack.state new) disk 1 (room - 1))
      → (rack.tells old → LeavesOnly (rack.moment old) (rack.moment new) (rack.left_since old) (rack.left_since new) (HasSure (rack.state old) disk 1 (room - 1))) → Works rack old new (disk_in m) (room_in m) Brings
  works_put Brings brings keeps leaves elsewhere sure = record {
    runs = runs;
    brings = brings;
    keeps = λ tells. keeps (alone runs) 0 (device_in m) (is_second m) tells own lie_here (lone_brought (device_in m) runs);
    any_moment = λ tells. leaves (alone runs) 0 (device_in m) (is_second m) tells own lie_here (lone_brought (device_in m) runs);
    elsewhere = λ tells. subst (λ (d : ℕ). KeepsSure (rack.state old) (rack.state new) d 1 (room_in m - 1)) disk_is (subst (λ (n : ℕ). KeepsSure (rack.state old) (rack.state new) disk 1 (n - 1)) room_is (elsewhere tells));
    sure_moment = λ tells. subst (λ (d : ℕ). LeavesOnly (rack.moment old) (rack.moment new) (rack.left_since old) (rack.left_since new) (HasSure (rack.state old) d 1 (room_in m - 1))) disk_is
        (subst (λ (n : ℕ). LeavesOnly (rack.moment old) (rack.moment new) (rack.left_since old) (rack.left_since new) (HasSure (rack.state old) disk 1 (n - 1))) room_is (sure tells));
  }

  -- and they stand
  pub puts_here : ((device : ℕ) (second : Bool) → disk ≡ member_disk device second → AllLieIn device room runs → PutsRuns disk device runs (rack.state old) (rack.state new)) → PutsRuns (disk_in m) (device_in m) runs (rack.state old) (rack.state new)
  puts_here puts = subst (λ (d : ℕ). PutsRuns d (device_in m) runs (rack.state old) (rack.state new)) disk_is (puts (device_in m) (is_second m) own lie_here)
