-- What a recovery leaves at each of its steps.
use Rattle.std.proofs.Common.{◌≡◌, ⊎_elim, refl, ℕ, Bool, true, false, List, None, Option, length}
use Rattle.std.specs.Prelude.{◌==◌, if◌then◌else◌}
use Rattle.bx_base.specs.declared.names.Point.{Point}
use Rattle.bx_disk.specs.Disks.{Disks}
use Rattle.bx_facts.specs.Writes.{IsSettled}
use Rattle.bx_global.specs.Opening.{opening_state}
use Rattle.bx_model.specs.declared.tree.Tree.{Tree}
use Rattle.bx_redo.specs.Steps.{found_log}
use Rattle.bx_redo.specs.View.{LogView}
use Rattle.bx_redo.specs.declared.work.Work.TheVariants.{Closes, Idle, Shuts}
use Rattle.bx_redo.proofs.Homes.{idle_found}
use Rattle.bx_volume.specs.Records.{Logged}
use Rattle.bx_plain_repair.specs.Left.{OpenDoubt, IsAt, IsLeft}
use Rattle.bx_plain_repair.specs.Recovering.{IsFoundOpen}
use Rattle.bx_plain_repair.specs.Resting.{HasActed, Rests, StandsAs, only}
use Rattle.bx_plain_repair.proofs.Homing.{homed_stands}
use Rattle.bx_plain_repair.proofs.Only.{others_none}

-- a log with no record under way
pub stands_left : (volume floor : ℕ) (tree : Tree) (doubt : Option OpenDoubt) (records : List Logged) (log : LogView) (disks : Disks) → log.slot ≡ 0
    → ((point : Point) → IsAt log.work point → ⊥) → StandsAs volume floor tree records log disks → IsLeft volume floor tree doubt disks
stands_left volume floor tree doubt records log disks slot none st = record {
  before = st.before;
  logs = only records;
  truth = st.truth;
  more = st.more;
  log = log;
  slot = slot;
  stands = st.stands;
  others = others_none records;
  told = st.told;
  tree_is = st.tree_is;
  leads = λ point at. absurd (none point at);
  labelled = st.labelled;
}

none_at : (b : Bool) (point : Point) → IsAt (if b then Shuts else Closes) point → ⊥
none_at true point at = at
none_at false point at = at

-- one whose gates are settled
pub rests_left : (volume floor : ℕ) (tree : Tree) (doubt : Option OpenDoubt) (records : List Logged) (disks : Disks) → Rests volume floor tree records disks → IsLeft volume floor tree doubt disks
rests_left volume floor tree doubt records disks rests = ⊎_elim
    (λ closed.
    let idle : LogView = record { slot = 0; device = 0; count = length records; work = Idle; out = false } in
    stands_left volume floor tree doubt records idle disks refl (λ point at. at) (record {
      before = rests.before;
      truth = rests.truth;
      more = rests.more;
      stands = idle_found (IsSettled disks (opening_state 1 1)) 1 1 (opening_state 1 1).sessions rests.before (only records) rests.truth rests.more idle rests.found refl refl closed;
      told = rests.told;
      tree_is = rests.tree_is;
      labelled = rests.labelled;
    }))
    (λ homed. stands_left volume floor tree doubt records (found_log 0 0 (length records)) disks refl (none_at (length records == 0)) (homed_stands volume floor tree records disks rests homed))
    rests.behind

-- a record whose call acted
pub acted_open : (volume floor : ℕ) (tree : Tree) (doubt : Option OpenDoubt) (records : List Logged) (disks : Disks) (has : HasActed volume floor tree doubt records disks)
    → IsFoundOpen volume floor tree doubt disks has.point
acted_open volume floor tree doubt records disks has = record {
  next = has.next;
  acted = has.acted;
  left = rests_left volume has.point.call has.next None records disks has.rests;
}
