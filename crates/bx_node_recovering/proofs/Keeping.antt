-- What a recovery asks for will be read as it stands; and its slot is spared where another slot's work goes on, or another session's write is sent.
use Rattle.std.proofs.Common.{◌≡◌, ◌≢◌, ⊎_elim, inl, ◌∙◌, ℕ, ◌+◌, ◌<◌, ◌≤◌, List, ◌∷◌, Some, refl, sym, ap, subst, arith}
use Rattle.bx_base.specs.declared.names.Actor.TheVariants.{Node}
use Rattle.bx_disk.specs.Disks.{Disks, Image}
use Rattle.bx_facts.specs.declared.owners.Owners as owners
use Rattle.bx_facts.specs.declared.register.Register as register
use Rattle.bx_facts.specs.declared.store.Store as store
use Rattle.bx_facts.specs.Chains.{HasRow, IsPlace, LivesIn, last, oldest}
use Rattle.bx_facts.specs.Holds.{Hold}
use Rattle.bx_facts.specs.Writes.{Asked, IsOnly, Made, Sent, WritesTo}
use Rattle.bx_facts.proofs.Lists.{front_or_behind}
use Rattle.bx_global.specs.Allowed.{IsAllowed}
use Rattle.bx_global.specs.declared.state.GlobalState.{GlobalState}
use Rattle.bx_node_landings.proofs.Landed.{with_landed}
use Rattle.bx_node_machines.specs.Recovering.{IsFilled, IsStill, Recovers, around}
use Rattle.bx_node_machines.proofs.Going.{IsNear, SparesSlot, body_low, filled_sure}
use Rattle.bx_node_events.proofs.Sparing.{few_records, log_of, near_touches, slot_low}
use Rattle.bx_node_sends.proofs.Sent.{with_write}
use Rattle.bx_node_views.proofs.Touching.{touch_clash}
use Rattle.bx_places.specs.Places.{body_place, gate_place}
use Rattle.bx_post.specs.declared.packets.Letter.{Letter}
use Rattle.bx_recover.specs.declared.stage.Stage.{Stage}
use Rattle.bx_views.specs.Attempts.{Deed}
use Rattle.bx_views.specs.Truths.{Hints, Truth}
use Rattle.bx_volume.specs.Overlay.{Logs}
use Rattle.bx_volume.specs.Records.{Logged, gate_of}
use Rattle.bx_world_chains.specs.Entitled.{AreAllowed, IsEntitled}
use Rattle.bx_world_chains.proofs.Chains.{last_place}
use Rattle.bx_world_chains.proofs.Rows.{has_of, lives_row}
use Rattle.bx_world_logs.specs.Logs.{Slot}
use Rattle.bx_world_logs.proofs.Moving.{slot_there}
use Rattle.bx_world_standing.specs.Rights.{IsOfSlot, IsToldOf, IsWithin, MayTouch, Surely}
use Rattle.bx_world_standing.specs.Sessions.{IsOfNode}
use Rattle.bx_world_standing.specs.Standing.{Course, Known, StandsAt, SureOf, own_up}
use Rattle.bx_world_standing.proofs.Told.{own_of_node}

-- ---- what is asked for

module _ {G O S T : Type 0} (g : register.Ghosts G) (o : owners.Ghosts O) (st : store.Ghosts S) (Stands : Truth → Hints → T → Type 0) (Step_is : T → Deed → T → Type 0)
    (register_is : G) (owners_are : O) (store_is : S) (x : Disks) (known : Known) (c : Course) (tree : T) (node session gone slot : ℕ) (stage : Stage) (records : List Logged)
    (at : StandsAt g o st Stands Step_is register_is owners_are store_is x known c tree) (allowed : AreAllowed c.register.chain)
    (was : Recovers g o st Stands Step_is register_is owners_are store_is x known c node session gone slot stage records) where
  allowed_last : IsAllowed (last c.register.chain)
  allowed_last = allowed.each (last c.register.chain) (last_place c.register.chain)

  -- What a node knows is no earlier than it knew: the slot is its session's to write by each state from then on.
  pub knows_more : (knew : ℕ) → c.store.told.knew (Node node) ≤ knew → (s : GlobalState) → IsPlace c.register.chain s → knew ≤ s.index → IsEntitled s gone slot session
  knows_more knew more s place less = was.known s place (omega (arith, more, less))

  -- ---- what it asks for will be read

  module _ (mine : own_up known.clocks.down (o.own owners_are) node ≡ Some session) where
    -- whatever is sure in the slot is by an index that the node knows
    low_index : (index : ℕ) → IsToldOf (st.made store_is).devices (st.made store_is).areas c.register.chain c.owners.holding c.owners.floor (IsOfNode o.by_boot known.clocks) (λ n. c.store.told.knew (Node n)) slot index → index ≤ c.store.told.knew (Node node)
    low_index index told =
        let t = at.sessions.told node session mine in
        let row = lives_row (last c.register.chain) session was.claimed.lives in
        let same = t.at in
        let low = told node session gone row.0 t.state row.1 row.2
        (own_of_node o.by_boot c.register.chain known.clocks (o.own owners_are) (λ n. c.store.told.knew (Node n)) allowed at.sessions node session row.0 mine row.1 row.2)
        t.place (omega (arith, same)) (was.known t.state t.place (omega (arith, same))) (has_of (last c.register.chain) gone was.claimed.row was.claimed.is) in
        omega (arith, low, same)

    module _ (Reads : ℕ → List ℕ → Type 0) (device place sectors : ℕ)
        (promise : (s : ℕ) (content : List ℕ) (index : ℕ) → place ≤ s → s < place + sectors → IsOnly c.store.writes c.store.told.greatest device s content → st.stands store_is x c.store device s content index → index ≤ c.store.told.knew (Node node) → Reads s content) where
      promised : (s : ℕ) (content : List ℕ) → place ≤ s → s < place + sectors → IsOfSlot (st.made store_is).devices slot device s → SureOf g o st Stands Step_is register_is owners_are store_is x known c device s content → Reads s content
      promised s content from below inside sure = promise s content sure.index from below sure.only sure.is
          (low_index sure.index (sure.within.slot slot (slot_low g o st Stands Step_is register_is owners_are store_is x known c tree at gone slot session allowed_last was.claimed) inside))

      -- The gates, but for those that are being written.
      pub gates_promised : (device ≡ (gate_place slot 0 (st.made store_is).devices).0) → (place ≡ (gate_place slot 0 (st.made store_is).devices).1) → (sectors ≡ 8)
          → (gate : ℕ) → gate < 8 → IsStill (st.made store_is).devices (around g o st Stands Step_is register_is owners_are store_is x known c node) slot gate
          → Reads (gate_place slot gate (st.made store_is).devices).1 (gate_of c.before (st.made store_is).devices slot gate)
      gates_promised on from many gate low still =
          promised (gate_place slot gate (st.made store_is).devices).1 (gate_of c.before (st.made store_is).devices slot gate) (omega (arith, from)) (omega (arith, from, many, low))
          (record { device = on; from = omega arith; to = omega (arith, low) })
          (subst (λ (n : ℕ). SureOf g o st Stands Step_is register_is owners_are store_is x known c n (gate_place slot gate (st.made store_is).devices).1 (gate_of c.before (st.made store_is).devices slot gate)) (sym on)
          ((log_of g o st Stands Step_is register_is owners_are store_is x known c tree at gone slot session allowed_last was.claimed).gates gate low still))

      -- A body, as far as its record fills it.
      pub body_promised : (body : ℕ) → (device ≡ (body_place slot body (st.made store_is).devices).0) → (place ≡ (body_place slot body (st.made store_is).devices).1) → (sectors ≡ 145)
          → (i : ℕ) → i < 145 → IsFilled (st.made store_is).devices (around g o st Stands Step_is register_is owners_are store_is x known c node) slot body i
          → Reads ((body_place slot body (st.made store_is).devices).1 + i) (c.before (body_place slot body (st.made store_is).devices).0 ((body_place slot body (st.made store_is).devices).1 + i))
      body_promised body on from many i few filled =
          let log = log_of g o st Stands Step_is register_is owners_are store_is x known c tree at gone slot session allowed_last was.claimed in
          let most = few_records g o st Stands Step_is register_is owners_are store_is x known c tree at gone slot session allowed_last was.claimed in
          let low = body_low (st.made store_is).devices (st.made store_is).areas (SureOf g o st Stands Step_is register_is owners_are store_is x known c) (around g o st Stands Step_is register_is owners_are store_is x known c node) slot log most body i filled in
          promised ((body_place slot body (st.made store_is).devices).1 + i) (c.before (body_place slot body (st.made store_is).devices).0 ((body_place slot body (st.made store_is).devices).1 + i)) (omega (arith, from)) (omega (arith, from, many, few))
          (record { device = on; from = omega arith; to = omega (arith, low, few) })
          (subst (λ (n : ℕ). SureOf g o st Stands Step_is register_is owners_are store_is x known c n ((body_place slot body (st.made store_is).devices).1 + i) (c.before (body_place slot body (st.made store_is).devices).0 ((body_place slot body (st.made store_is).devices).1 + i))) (sym on)
          (filled_sure (st.made store_is).devices (st.made store_is).areas (SureOf g o st Stands Step_is register_is owners_are store_is x known c) (around g o st Stands Step_is register_is owners_are store_is x known c node) slot log most body i few filled))

-- ---- another slot's work goes on

module _ {G O S T : Type 0} (g : register.Ghosts G) (o : owners.Ghosts O) (st : store.Ghosts S) (Stands : Truth → Hints → T → Type 0) (Step_is : T → Deed → T → Type 0)
    (register_is : G) (owners_are : O) (store_is : S) (x : Disks) (known : Known) (c : Course) (node session slot : ℕ) where
  -- What was written there is acknowledged.
  pub lands_elsewhere : (k : ℕ) (logs : Logs) (is : Slot) (now : Image) → slot ≢ k → logs slot ≡ c.logs slot → ((d s : ℕ) → IsOfSlot (st.made store_is).devices slot d s → now d s ≡ c.before d s)
      → SparesSlot (st.made store_is).devices (st.made store_is).areas (SureOf g o st Stands Step_is register_is owners_are store_is x known c) (SureOf g o st Stands Step_is register_is owners_are store_is x known (with_landed c k logs is now))
      (st.will_read store_is x c.store node) (st.will_read store_is x c.store node)
      (around g o st Stands Step_is register_is owners_are store_is x known c node) (around g o st Stands Step_is register_is owners_are store_is x known (with_landed c k logs is now) node) session slot
  lands_elsewhere k logs is now apart same_log same = record {
    logs = same_log;
    slots = slot_there c.slots k slot is apart;
    before = same;
    asked = inl refl;
    out = inl refl;
    sent = λ write there whose. there;
    sure = λ d s content near sure. sure;
    reads = λ asks s content was is near sure read. read;
  }

-- ---- another session's write

-- A write of another live session is sent, to sectors that it may write.
module _ {G O S T : Type 0} (g : register.Ghosts G) (o : owners.Ghosts O) (st : store.Ghosts S) (Stands : Truth → Hints → T → Type 0) (Step_is : T → Deed → T → Type 0)
    (register_is : G) (owners_are : O) (old new : S) (x : Disks) (known : Known) (c : Course) (tree : T) (node session gone slot its : ℕ) (letters : List Letter) (write : Sent)
    (at : StandsAt g o st Stands Step_is register_is owners_are old x known c tree) (allowed : IsAllowed (last c.register.chain)) (claimed : IsEntitled (last c.register.chain) gone slot session)
    (lives : LivesIn (last c.register.chain) its) (apart : its ≢ session) (whose : write.session ≡ its)
    (touches : (d s : ℕ) (content : List ℕ) → WritesTo write d s content → MayTouch (st.made old).devices (st.made old).areas (last c.register.chain) c.owners.holding c.logs c.slots its d s)
    (alone : (one another block : ℕ) (hold : Hold) → LivesIn (last c.register.chain) one → HasRow (last c.register.chain) another → c.owners.holding one block ≡ Some hold → oldest c.register.chain ≤ another)
    (made : st.made new ≡ st.made old) (out : st.out_of new node ≡ st.out_of old node) (asked : st.asked new node ≡ st.asked old node)
    (goes : (d s : ℕ) (content : List ℕ) (index : ℕ) → IsOnly (write ∷ c.store.writes) c.store.told.greatest d s content → st.stands old x c.store d s content index → st.stands new x (with_write c letters write).store d s content index)
    (reading : (s : ℕ) (content : List ℕ) (asks : Asked) → st.asked old node ≡ Some asks → IsOnly (write ∷ c.store.writes) c.store.told.greatest asks.device s content → st.will_read old x c.store node s content → st.will_read new x (with_write c letters write).store node s content) where
  low : slot < 8
  low = slot_low g o st Stands Step_is register_is owners_are old x known c tree at gone slot session allowed claimed

  -- it brings nothing to the slot, nor to the homes of its log's blocks
  quiet : (d s : ℕ) → IsNear (st.made old).devices (st.made old).areas slot (c.logs slot) d s → (content : List ℕ) → WritesTo write d s content → ⊥
  quiet d s near content w =
      touch_clash (st.made old).devices (st.made old).areas at.logs.volume (last c.register.chain) c.owners.holding (oldest c.register.chain) c.logs c.slots at.volume.rows at.volume.apart alone at.rights at.logs.once allowed
      its session d s lives claimed.lives apart (touches d s content w)
      (near_touches (st.made old).devices (st.made old).areas (last c.register.chain) c.owners.holding c.logs c.slots gone slot session d s low claimed near)

  only_then : (d s : ℕ) (content : List ℕ) → IsNear (st.made old).devices (st.made old).areas slot (c.logs slot) d s → IsOnly c.store.writes c.store.told.greatest d s content → IsOnly (write ∷ c.store.writes) c.store.told.greatest d s content
  only_then d s content near only = record {
    each = λ one brings has to. ⊎_elim
        (λ same. absurd (quiet d s near brings (subst (λ (w : Sent). WritesTo w d s brings) (sym same) to)))
        (λ before. only.each one brings before to)
        (front_or_behind write c.store.writes one has);
  }

  pub sends_elsewhere : SparesSlot (st.made old).devices (st.made old).areas (SureOf g o st Stands Step_is register_is owners_are old x known c) (SureOf g o st Stands Step_is register_is owners_are new x (record known { letters = letters }) (with_write c letters write))
      (st.will_read old x c.store node) (st.will_read new x (with_write c letters write).store node)
      (around g o st Stands Step_is register_is owners_are old x known c node) (around g o st Stands Step_is register_is owners_are new x (record known { letters = letters }) (with_write c letters write) node) session slot
  sends_elsewhere = record {
    logs = refl;
    slots = refl;
    before = λ d s inside. refl;
    asked = inl asked;
    out = inl out;
    sent = λ one there mine. ⊎_elim (λ same. absurd (apart (sym whose ∙ ap (λ (w : Sent). w.session) same ∙ mine))) (λ before. before) (front_or_behind write c.store.writes one there);
    sure = λ d s content near sure. subst (λ (m : Made). Surely (st.stands new x (with_write c letters write).store)
        (IsWithin m.devices m.areas c.register.chain c.owners.holding c.owners.floor (IsOfNode o.by_boot known.clocks) (λ n. c.store.told.knew (Node n))) (write ∷ c.store.writes) c.store.told.greatest d s content) (sym made)
        (record { index = sure.index; is = goes d s content sure.index (only_then d s content near sure.only) sure.is; only = only_then d s content near sure.only; within = sure.within });
    reads = λ asks s content was is near sure read. reading s content asks was (only_then asks.device s content near sure.only) read;
  }
