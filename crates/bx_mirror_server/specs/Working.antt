-- What an event of a member leaves of disks, and what a crash during it may leave.
use Rattle.std.specs.Prelude.{◌≡◌, ℕ, ◌-◌, List, [], ◌∷◌}
use Rattle.bx_calls.specs.Calls.{HasSure, KeepsSure, LeavesOnly}
use Rattle.bx_disk.specs.Disks.{IsImage}
use Rattle.bx_disk.specs.declared.rack.Rack as racks
use Rattle.bx_facts.specs.Writes.{Sent}
use Rattle.bx_members.specs.Members.{HasMembers, KeepsMembers}
use Rattle.bx_records.specs.declared.runs.Run.{Run}

-- a write that brings these runs, is alone, and isn't over
abbrev pub alone : List Run → List Sent
alone runs = record { session = 0; until = 0; runs = runs } ∷ []

-- Disks were read alone.
pub record Reads {R : Type 0} (rack : racks.Ghosts R) (old new : R) : Type 0 where
  pub stays : rack.state new ≡ rack.state old
  pub any_moment : rack.tells old → LeavesOnly (rack.moment old) (rack.moment new) (rack.left_since old) (rack.left_since new) (IsImage (rack.state old))

-- Some runs were written, or a part of them: on one disk, behind its label, and within so many sectors. What they don't change stays, and what is
-- elsewhere, at any moment too.
pub record Works {R : Type 0} (rack : racks.Ghosts R) (old new : R) (disk room : ℕ) (Brings : List Run → Type 0) : Type 0 where
  pub runs : List Run
  pub brings : Brings runs
  pub keeps : rack.tells old → KeepsMembers (alone runs) 0 (rack.state old) (rack.state new)
  pub any_moment : rack.tells old → LeavesOnly (rack.moment old) (rack.moment new) (rack.left_since old) (rack.left_since new) (HasMembers (alone runs) 0 (rack.state old))
  pub elsewhere : rack.tells old → KeepsSure (rack.state old) (rack.state new) disk 1 (room - 1)
  pub sure_moment : rack.tells old → LeavesOnly (rack.moment old) (rack.moment new) (rack.left_since old) (rack.left_since new) (HasSure (rack.state old) disk 1 (room - 1))

-- nothing is brought
abbrev pub Nothing : List Run → Type 0
Nothing runs = runs ≡ []
