-- A volume of one device and one area whose log in slot 0 was closed is at rest, where the other slots are, and two replicas are labelled.
use Rattle.std.proofs.Common.{◌≡◌, ◌≢◌, ◌⊎◌, inl, inr, ℕ, ◌+◌, ◌<◌, ◌≤◌, false, List, refl, sym, ◌∙◌, ap, subst, arith}
use Rattle.bx_disk.specs.Disks.{Disks}
use Rattle.bx_facts.specs.Writes.{IsSettled, IsSourceIn, Made}
use Rattle.bx_global.specs.Opening.{opening_state}
use Rattle.bx_layout.specs.Labels.{IsOpenGate}
use Rattle.bx_plain_repair.specs.Bench.{made_for}
use Rattle.bx_plain_repair.specs.Left.{IsClosed}
use Rattle.bx_plain_repair.specs.Spared.{SparesOthers}
use Rattle.bx_model.specs.declared.tree.Tree.{Tree}
use Rattle.bx_node_openings.specs.Resting.{VolumeRests}
use Rattle.bx_places.specs.Places.{IsBlock, block_place, gate_place, log_start}
use Rattle.bx_format_openings.proofs.Alike.{first_members}
use Rattle.bx_plain_openings.proofs.Left.{IsShutGate}
use Rattle.bx_redo.proofs.Settled.{one_disk}
use Rattle.bx_redo.proofs.Within.{behind_it, within_it}
use Rattle.bx_volume.proofs.Sizes.{block_bytes}
use Rattle.bx_volume.specs.Overlay.{Home}
use Rattle.bx_volume.specs.Records.{gate_of}
use Rattle.bx_node_openings.specs.bx_world_standing.specs.Labels.{LabelsStand}
use Rattle.bx_node_openings.specs.bx_world_stays.proofs.Labels.{labels_keep}

-- what a recovery leaves of the other slots, and of labels
pub others_stay_shut : (x y : Disks) (slot gate : ℕ) → SparesOthers x y → slot ≢ 0 → slot < 8 → gate < 8 → IsShutGate x slot gate → IsShutGate y slot gate
others_stay_shut x y slot gate spares other low few was = record {
  content = was.content;
  settled = spares.slots (opening_state 1 1) (log_start slot + gate) was.content (let some = at_least slot other in omega (arith, some)) (omega (arith, low, few)) was.settled;
  shut = was.shut;
}
  where
    at_least : (n : ℕ) → n ≢ 0 → 1 ≤ n
    at_least n other = grind arith

pub labels_stay : (made : Made) (x y : Disks) → y.sizes ≡ x.sizes → SparesOthers x y → LabelsStand made x → LabelsStand made y
labels_stay made x y sizes spares was = labels_keep made x y sizes (λ d low sure. let kept = spares.replicas.each d 0 low in (kept.reads, kept.sure sure)) was

module _ (volume : ℕ) (tree : Tree) (x : Disks) (closed : IsClosed volume tree x) (labels : LabelsStand (made_for volume) x)
    (others : (slot gate : ℕ) → slot ≢ 0 → slot < 8 → gate < 8 → IsShutGate x slot gate) where
  -- what is settled is what the first members have
  is_source : (device : ℕ) → device < 1 → IsSourceIn (opening_state 1 1) device false
  is_source device less = subst (λ (d : ℕ). IsSourceIn (opening_state 1 1) d false) (sym (let e : device ≡ 0 = omega (arith, less) in e)) (inl refl)

  held_is : (device sector : ℕ) (content : List ℕ) → IsSettled x (opening_state 1 1) device sector content → first_members x device sector ≡ content
  held_is device sector content settled = ap (λ (n : ℕ). x.reads n sector) (one_disk device false) ∙ settled.reads false (is_source device settled.there)

  as_held : (device sector : ℕ) (content : List ℕ) → IsSettled x (opening_state 1 1) device sector content → IsSettled x (opening_state 1 1) device sector (first_members x device sector)
  as_held device sector content settled = subst (λ (c : List ℕ). IsSettled x (opening_state 1 1) device sector c) (sym (held_is device sector content settled)) settled

  -- the gates of slot 0, and of the others
  own_gate : (gate : ℕ) → gate < 8 → IsSettled x (opening_state 1 1) 0 (log_start 0 + gate) (closed.before 0 (log_start 0 + gate))
  own_gate gate few = closed.stands.own 0 (log_start 0 + gate) (within_it 0 (log_start 0) 8 0 (log_start 0 + gate) refl (omega arith) (omega (arith, few))) (behind_it 0 0 0 0 (log_start 0 + gate) (omega arith))

  is_gate : (slot gate : ℕ) → slot < 8 → gate < 8 → IsShutGate x slot gate
  is_gate slot gate low few = by (first_or slot)
    where
      first_or : (n : ℕ) → (n ≡ 0) ⊎ (n ≢ 0)
      first_or n = grind arith

      by : (slot ≡ 0) ⊎ (slot ≢ 0) → IsShutGate x slot gate
      by (inl zero) = subst (λ (n : ℕ). IsShutGate x n gate) (sym zero)
          (record { content = closed.before 0 (log_start 0 + gate); settled = own_gate gate few; shut = closed.stands.finds gate (omega arith) few })
      by (inr other) = others slot gate other low few

  on_first : (slot : ℕ) → (gate_place slot 0 1).0 ≡ 0
  on_first slot = omega arith

  gate_settled : (slot gate : ℕ) → slot < 8 → gate < 8 → IsSettled x (opening_state 1 1) (gate_place slot gate 1).0 (gate_place slot gate 1).1 (gate_of (first_members x) 1 slot gate)
  gate_settled slot gate low few = let is = is_gate slot gate low few in
      subst (λ (d : ℕ). IsSettled x (opening_state 1 1) d (log_start slot + gate) (first_members x d (log_start slot + gate))) (sym (on_first slot)) (as_held 0 (log_start slot + gate) is.content is.settled)

  gate_shut : (slot gate : ℕ) → slot < 8 → gate < 8 → IsOpenGate (gate_of (first_members x) 1 slot gate) → ⊥
  gate_shut slot gate low few open_gate = let is = is_gate slot gate low few in
      is.shut (subst IsOpenGate (ap (λ (d : ℕ). first_members x d (log_start slot + gate)) (on_first slot) ∙ held_is 0 (log_start slot + gate) is.content is.settled) open_gate)

  -- the homes
  home_settled : (at i : ℕ) → IsBlock 1 at → i < 9 → IsSettled x (opening_state 1 1) (block_place at 1).0 ((block_place at 1).1 + i) (closed.before (block_place at 1).0 ((block_place at 1).1 + i))
  home_settled at i is few = closed.stands.sure (block_place at 1).0 ((block_place at 1).1 + i) (Home at i is (λ slot low. refl) few) (behind_it 0 0 0 (block_place at 1).0 ((block_place at 1).1 + i) (omega arith))

  pub closed_rests : VolumeRests (made_for volume) x (opening_state 1 1) (first_members x) closed.truth
  closed_rests = record {
    volume = record { least_devices = omega arith; most_devices = omega arith; least_areas = omega arith; most_areas = omega arith };
    labels = labels;
    members = closed.labelled.members;
    shut = gate_shut;
    gates = gate_settled;
    homes = λ at is. let home = closed.stands.is_truth.home at is (λ slot low. refl) in
        let long = block_bytes (closed.truth at) home.is in
        record {
          is = home.is;
          reads = record { each = λ i few. held_is _ _ _ (home_settled at i is (omega (arith, few, long))) ∙ home.reads.each i few };
        };
    sure = λ at is i few. as_held _ _ _ (home_settled at i is few);
  }
