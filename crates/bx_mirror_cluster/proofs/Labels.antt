-- Labels of members: they stay where their sector does.
use Rattle.std.proofs.Common.{◌≡◌, inl, inr, ℕ, ◌≤◌, Bool, true, false, List, sym, subst, arith}
use Rattle.std.specs.Prelude.{slice_index}
use Rattle.bx_disk.specs.Disks.{Disks}
use Rattle.bx_facts.specs.Disks.{SameMemberLengths}
use Rattle.bx_facts.specs.Writes.{Made, label_on, member_disk}
use Rattle.bx_layout.specs.Labels.{SpellsLabel}
use Rattle.bx_rows.specs.declared.device.DeviceRow.{DeviceRow}
use Rattle.bx_mirror_laws.specs.Acting.{MayLead}
use Rattle.bx_mirror_laws.specs.Sides.{Copied, Handing}
use Rattle.bx_mirror_cluster.specs.Fitting.{HasLabel, NeedsLabel}

pub label_kept : (made : Made) (x y : Disks) (disk : ℕ) → y.reads disk 0 ≡ x.reads disk 0 → (x.unsure disk 0 ≡ false → y.unsure disk 0 ≡ false) → slice_index y.sizes disk ≡ slice_index x.sizes disk → HasLabel made x disk → HasLabel made y disk
label_kept made x y disk reads sure sizes was = record {
  spells = subst (SpellsLabel (label_on made disk)) (sym reads) was.spells;
  sure = sure was.sure;
  long = let long = was.long in omega (arith, long, sizes);
}

-- a member needs its label as before, where fewer lead, fewer are up, and fewer have taken pieces
pub needs_before : (last : DeviceRow) (handed handed_next : List Handing) (copieds : List Copied) (down down_next b : Bool) → (MayLead last handed_next b → MayLead last handed b) → (down_next ≡ false → down ≡ false) → NeedsLabel last handed_next copieds down_next b → NeedsLabel last handed copieds down b
needs_before last handed handed_next copieds down down_next b led up needs = elim needs.is [
  | inl leads ↦ record { is = inl (led leads) }
  | inr rest ↦ elim rest [
    | inl is_up ↦ record { is = inr (inl (up is_up)) }
    | inr taken ↦ record { is = inr (inr taken) }
  ]
]

-- a member's disk is one of those behind the replicas'
pub lengths_at : (x y : Disks) → SameMemberLengths x y → (d : ℕ) (b : Bool) → slice_index y.sizes (member_disk d b) ≡ slice_index x.sizes (member_disk d b)
lengths_at x y same d b = same.each (member_disk d b) (by b)
  where
    by : (c : Bool) → 3 ≤ member_disk d c
    by false = omega arith
    by true = omega arith
