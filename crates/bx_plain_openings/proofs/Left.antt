-- What a cluster that stops leaves of the log slots without sessions, on a volume of one device: their gates are closed, also once disks crash.
use Rattle.std.proofs.Common.{◌≡◌, ℕ, ◌+◌, ◌%◌, ◌<◌, ◌∙◌, Bool, false, List, sym, ap, subst, arith}
use Rattle.bx_disk.specs.Disks.{Disks}
use Rattle.bx_facts.specs.declared.register.Register as register
use Rattle.bx_facts.specs.declared.store.Store as store
use Rattle.bx_facts.specs.Chains.{Chain, last}
use Rattle.bx_facts.specs.Disks.{IsKept}
use Rattle.bx_facts.specs.Writes.{IsSettled}
use Rattle.bx_global.specs.Opening.{opening_state}
use Rattle.bx_layout.specs.Labels.{IsOpenGate}
use Rattle.bx_node_openings.proofs.Kept.{settled_in, settled_keeps}
use Rattle.bx_node_openings.specs.Resting.{KeepsVolume}
use Rattle.bx_facts.specs.declared.owners.Owners as owners
use Rattle.bx_places.specs.Places.{gate_place, log_start}
use Rattle.bx_rows.specs.Words.{is_taken}
use Rattle.bx_views.specs.Attempts.{Deed}
use Rattle.bx_views.specs.Truths.{Hints, Truth}
use Rattle.bx_volume.specs.Records.{gate_of}
use Rattle.bx_node_openings.specs.bx_world_logs.specs.Logs.{IsShut, SlotStands}
use Rattle.bx_node_openings.specs.bx_world_standing.specs.Standing.{Course, Known, StandsAt, SureOf}

-- a gate is closed, and settled
pub record IsShutGate (x : Disks) (slot gate : ℕ) : Type 0 where
  pub content : List ℕ
  pub settled : IsSettled x (opening_state 1 1) 0 (log_start slot + gate) content
  pub shut : IsOpenGate content → ⊥

-- what is sure stays, whatever a crash makes of the rest
pub crashed_volume : (x y : Disks) → y.sizes ≡ x.sizes → ((d sector : ℕ) → x.unsure d sector ≡ false → IsKept x y d sector) → KeepsVolume x y
crashed_volume x y sizes kept = record { sizes = sizes; each = λ d sector of sure. kept d sector sure }

pub crashed_shut : (x y : Disks) (slot gate : ℕ) → KeepsVolume x y → IsShutGate x slot gate → IsShutGate y slot gate
crashed_shut x y slot gate keeps was = record {
  content = was.content;
  settled = settled_keeps x y keeps (opening_state 1 1) 0 (log_start slot + gate) was.content was.settled;
  shut = was.shut;
}

module _ {G O S T : Type 0} (g : register.Ghosts G) (o : owners.Ghosts O) (st : store.Ghosts S) (Stands : Truth → Hints → T → Type 0) (Step : T → Deed → T → Type 0)
    (register_is : G) (owners_are : O) (store_is : S) (x : Disks) (known : Known) (c : Course) (tree : T)
    (at : StandsAt g o st Stands Step register_is owners_are store_is x known c tree)
    (settles : (device sector : ℕ) (content : List ℕ) (index : ℕ) → st.stands store_is x c.store device sector content index → st.settled store_is x c.store device sector content)
    (settled_is : (device sector : ℕ) (content : List ℕ) → st.settled store_is x c.store device sector content → IsSettled x (last c.store.told.chain) device sector content)
    (one_device : (st.made store_is).devices ≡ 1) (both_members : (last c.register.chain).devices ≡ (opening_state 1 1).devices) where
  pub slot_shut : (slot gate : ℕ) → slot < 8 → gate < 8 → is_taken (last c.register.chain).sessions slot ≡ false → IsShutGate x slot gate
  slot_shut slot gate low few free = record {
    content = gate_of c.before (st.made store_is).devices slot gate;
    settled = subst (λ (device : ℕ). IsSettled x (opening_state 1 1) device (log_start slot + gate) (gate_of c.before (st.made store_is).devices slot gate)) on_first
        (settled_in x (last c.register.chain) (opening_state 1 1) (sym both_members) (gate_place slot gate (st.made store_is).devices).0 (log_start slot + gate) (gate_of c.before (st.made store_is).devices slot gate)
        (subst (λ (chain : Chain). IsSettled x (last chain) (gate_place slot gate (st.made store_is).devices).0 (log_start slot + gate) (gate_of c.before (st.made store_is).devices slot gate)) at.pasts.store_chain
        (settled_is _ _ _ (settles _ _ _ (shut.gates gate few).index (shut.gates gate few).is))));
    shut = λ opened. shut.closed gate (omega arith) few opened;
  }
    where
      shut : IsShut (SureOf g o st Stands Step register_is owners_are store_is x known c) (st.made store_is).devices (st.made store_is).areas c.before slot (c.slots slot)
      shut = subst (λ (taken : Bool). SlotStands (SureOf g o st Stands Step register_is owners_are store_is x known c) (st.made store_is).devices (st.made store_is).areas c.before taken c.logs slot (c.slots slot)) free (at.logs.each slot low)

      on_first : (gate_place slot gate (st.made store_is).devices).0 ≡ 0
      on_first = ap (λ (devices : ℕ). slot % devices) one_device ∙ (let e : slot % 1 ≡ 0 = omega arith in e)
