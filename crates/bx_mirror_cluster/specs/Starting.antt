-- A node or a member starts again.
use Rattle.std.specs.Prelude.{◌≡◌, ◌≢◌, ℕ, ◌≤◌, ◌⊎◌, Bool, false, [], None}
use Rattle.bx_base.specs.declared.names.Actor.TheVariants.{Member, Node}
use Rattle.bx_disk.specs.Disks.{Disks, Stays}
use Rattle.bx_facts.specs.Disks.{SameMemberLengths}
use Rattle.bx_facts.specs.Machines.{put_at}
use Rattle.bx_facts.specs.Writes.{Made, StorePast, member_disk}
use Rattle.bx_mirror_member.specs.Standing.{MemberView}
use Rattle.bx_mirror_cluster.specs.Fitting.{HasLabel}

-- the past once a node has a boot, and knows nothing yet
abbrev pub starting : StorePast → ℕ → ℕ → StorePast
starting past n boot = record past {
  told = record past.told {
    knew = put_at (Node n) 0 past.told.knew;
    boots = put_at (Node n) boot past.told.boots;
    down = put_at (Node n) false past.told.down;
  };
}

-- and once a member has, or its disk failed and it is down still
abbrev pub awaking : StorePast → ℕ → ℕ → Bool → StorePast
awaking past n boot failed = record past {
  told = record past.told {
    knew = put_at (Member n) 0 past.told.knew;
    boots = put_at (Member n) boot past.told.boots;
    down = put_at (Member n) failed past.told.down;
  };
}

-- A member of a device has started in a boot, or its disk failed: it knows and owes nothing. Behind the label its disk reads as it did, and what was
-- sure is. Once it started it has its label, else it has it where it had it.
pub record IsBooted (made : Made) (x y : Disks) (d : ℕ) (b failed : Bool) (boot : ℕ) (m : MemberView) : Type 0 where
  pub boot_is : failed ≡ false → m.boot ≡ boot
  pub row : m.row ≡ None
  pub lasts : m.lasts ≡ []
  pub owed : m.owed ≡ []
  pub label : (failed ≡ false) ⊎ HasLabel made x (member_disk d b) → HasLabel made y (member_disk d b)
  pub reads : (s : ℕ) → 1 ≤ s → y.reads (member_disk d b) s ≡ x.reads (member_disk d b) s
  pub sure : (s : ℕ) → 1 ≤ s → x.unsure (member_disk d b) s ≡ false → y.unsure (member_disk d b) s ≡ false
  pub disks : (disk s : ℕ) → disk ≢ member_disk d b → Stays x y disk s
  pub lengths : SameMemberLengths x y
