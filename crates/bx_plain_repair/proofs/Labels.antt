-- Labels stay where nothing is written in their sectors.
use Rattle.std.proofs.Common.{◌≡◌, ⊎_elim, refl, ℕ, ◌≤◌, arith, List, [], ◌∷◌, Contains, sym, subst}
use Rattle.std.specs.Prelude.{slice_index}
use Rattle.bx_disk.specs.Disks.{Disks}
use Rattle.bx_facts.specs.Writes.{IsOnly, Sent, WritesIn, label_on, member_disk, store_room}
use Rattle.bx_facts.proofs.Lists.{front_or_behind, nothing}
use Rattle.bx_layout.specs.Labels.{SpellsLabel}
use Rattle.bx_members.specs.Members.{KeepsMembers}
use Rattle.bx_records.specs.declared.runs.Run.{Run}
use Rattle.bx_plain_repair.specs.Bench.{AreLong, IsLabelledBench, first_label, made_for}
use Rattle.bx_plain_repair.specs.Through.{one_write}

pub labelled_kept : (x z : Disks) (volume : ℕ) (runs : List Run) → IsLabelledBench x volume → z.sizes ≡ x.sizes → KeepsMembers (one_write runs ∷ []) 0 x z
    → ((run : Run) → Contains runs run → 1 ≤ run.place) → IsLabelledBench z volume
labelled_kept x z volume runs is sizes keeps behind_label = record {
  bench = record {
    long = subst AreLong (sym sizes) is.bench.long;
    reads = subst (SpellsLabel (first_label volume)) (sym (keeps.replicas 0 0 (omega arith)).reads) is.bench.reads;
    sure = (keeps.replicas 0 0 (omega arith)).sure is.bench.sure;
  };
  members = record {
    devices = is.members.devices;
    labels = record {
      reads = λ device second source. subst (SpellsLabel (label_on (made_for volume) (member_disk device second)))
          (sym (keeps.reads device 0 second (x.reads (member_disk device second) 0) (only device (x.reads (member_disk device second) 0)) refl))
          (is.members.labels.reads device second source);
      sure = λ device second source. keeps.sure device 0 second (x.reads (member_disk device second) 0) (only device (x.reads (member_disk device second) 0)) refl
          (is.members.labels.sure device second source);
      long = λ device second source. subst (λ (all : List ℕ). store_room (made_for volume) ≤ slice_index all (member_disk device second)) (sym sizes) (is.members.labels.long device second source);
    };
  };
}
  where
    none : (device : ℕ) (other : List ℕ) → WritesIn runs device 0 other → ⊥
    none device other (run, there, w) = let least = behind_label run there in let from = w.from in omega (arith, least, from)

    only : (device : ℕ) (content : List ℕ) → IsOnly (one_write runs ∷ []) 0 device 0 content
    only device content = record {
      each = λ write other there w. ⊎_elim
          (λ (same : one_write runs ≡ write). absurd (none device other (subst (λ (s : Sent). WritesIn s.runs device 0 other) (sym same) w)))
          (λ gone. absurd (nothing write gone))
          (front_or_behind (one_write runs) [] write there);
    }
