-- What a crash leaves of what was left.
use Rattle.std.proofs.Common.{◌≡◌, ℕ, ◌≤◌, false, List, Option, sym, subst}
use Rattle.std.specs.Prelude.{slice_index}
use Rattle.bx_disk.specs.Disks.{Disks}
use Rattle.bx_facts.specs.Disks.{IsKept}
use Rattle.bx_facts.specs.Writes.{IsSettled, label_on, member_disk, store_room}
use Rattle.bx_global.specs.Opening.{opening_state}
use Rattle.bx_layout.specs.Labels.{SpellsLabel}
use Rattle.bx_plain_repair.specs.Bench.{AreLong, IsLabelledBench, first_label, made_for}
use Rattle.bx_plain_repair.specs.Left.{OpenDoubt, IsLeft}
use Rattle.bx_model.specs.declared.tree.Tree.{Tree}
use Rattle.bx_redo.specs.Stands.{LogStands}

module _ (x y : Disks) (sizes : y.sizes ≡ x.sizes) (kept : (d s : ℕ) → x.unsure d s ≡ false → IsKept x y d s) where
  -- labels that were sure stand
  labelled_still : (volume : ℕ) → IsLabelledBench x volume → IsLabelledBench y volume
  labelled_still volume is = record {
    bench = record {
      long = subst AreLong (sym sizes) is.bench.long;
      reads = subst (SpellsLabel (first_label volume)) (sym (kept 0 0 is.bench.sure).reads) is.bench.reads;
      sure = (kept 0 0 is.bench.sure).sure is.bench.sure;
    };
    members = record {
      devices = is.members.devices;
      labels = record {
        reads = λ device second source.
            subst (SpellsLabel (label_on (made_for volume) (member_disk device second)))
            (sym (kept (member_disk device second) 0 (is.members.labels.sure device second source)).reads)
            (is.members.labels.reads device second source);
        sure = λ device second source.
            let was = is.members.labels.sure device second source in
            (kept (member_disk device second) 0 was).sure was;
        long = λ device second source. subst (λ (all : List ℕ). store_room (made_for volume) ≤ slice_index all (member_disk device second)) (sym sizes) (is.members.labels.long device second source);
      };
    };
  }

  -- the rest is as the log stands
  pub left_still : (volume floor : ℕ) (tree : Tree) (doubt : Option OpenDoubt) (left : IsLeft volume floor tree doubt x)
      → LogStands (IsSettled y (opening_state 1 1)) 1 1 (opening_state 1 1).sessions left.before left.logs left.truth left.more left.log → IsLeft volume floor tree doubt y
  left_still volume floor tree doubt left stands = record {
    before = left.before;
    logs = left.logs;
    truth = left.truth;
    more = left.more;
    log = left.log;
    slot = left.slot;
    stands = stands;
    others = left.others;
    told = left.told;
    tree_is = left.tree_is;
    leads = left.leads;
    labelled = labelled_still volume left.labelled;
  }
