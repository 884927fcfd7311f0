-- The nodes stand where a recovery asks for gates, or for a body.
use Rattle.std.proofs.Common.{◌≡◌, ◌≢◌, inl, inr, ◌∙◌, ℕ, ◌+◌, ◌<◌, ◌≤◌, List, Contains, Some, None, length, refl, sym, ap, subst, arith}
use Rattle.bx_base.specs.declared.names.Actor.TheVariants.{Node}
use Rattle.bx_disk.specs.Disks.{Disks}
use Rattle.bx_facts.specs.declared.owners.Owners as owners
use Rattle.bx_facts.specs.declared.register.Register as register
use Rattle.bx_facts.specs.declared.store.Store as store
use Rattle.bx_facts.specs.Chains.{HasRow, LivesIn, last, oldest}
use Rattle.bx_facts.specs.Holds.{Hold}
use Rattle.bx_facts.specs.Writes.{Asked, GoesOn, IsOnly, Made}
use Rattle.bx_node_events.proofs.Acting.{IsChanged, IsLive}
use Rattle.bx_node_events.proofs.Asked.{with_letters}
use Rattle.bx_node_events.proofs.Sparing.{few_records, log_of, slot_low}
use Rattle.bx_node_machines.specs.Machines as words
use Rattle.bx_node_machines.specs.Machines.{MachineView}
use Rattle.bx_node_machines.specs.Nodes.{IsOfNode, NodesStand, known_of}
use Rattle.bx_node_machines.specs.Recovering.{Around, HasEnded, IsRecovering, Recovers, around, body_asked, gates_asked, recovery_of}
use Rattle.bx_node_machines.proofs.Going.{goes_on}
use Rattle.bx_node_recovering.proofs.Asking.{body_is_asked, gates_are_asked}
use Rattle.bx_node_recovering.proofs.Beside.{Rests}
use Rattle.bx_node_recovering.proofs.Keeping.{body_promised, gates_promised}
use Rattle.bx_node_recovering.proofs.Still as still
use Rattle.bx_node_recovering.proofs.Still.{same_course}
use Rattle.bx_post.specs.declared.packets.Letter.{Letter}
use Rattle.bx_recover.specs.declared.stage.Stage.{Stage}
use Rattle.bx_recover.specs.declared.stage.Stage.TheVariants.{Bodies, Gates}
use Rattle.bx_rows.specs.declared.session.SessionRow.{SessionRow}
use Rattle.bx_views.specs.Attempts.{Deed}
use Rattle.bx_views.specs.Truths.{Hints, Truth}
use Rattle.bx_volume.specs.Records.{Logged}
use Rattle.bx_world_chains.specs.Entitled.{AreAllowed}
use Rattle.bx_world_standing.specs.Labels.{LabelsStand}
use Rattle.bx_world_standing.specs.Parts.{Clocks}
use Rattle.bx_world_standing.specs.Rights.{IsWithin, Surely}
use Rattle.bx_world_standing.specs.Standing.{Course, Known, StandsAt, SureOf, own_up}
use Rattle.bx_world_standing.proofs.Owns.{own_is}
use Rattle.bx_world_stays.proofs.Stays.{stays}

module _ {G O S T : Type 0} (g : register.Ghosts G) (o : owners.Ghosts O) (st : store.Ghosts S) (Stands : Truth → Hints → T → Type 0) (Step_is : T → Deed → T → Type 0)
    (register_is : G) (owners_are : O) (old new : S) (x : Disks) (letters then_letters : List Letter) (clocks : Clocks) (machines later : List MachineView) (c : Course) (tree : T)
    (node session gone slot : ℕ) (row : SessionRow) (before : MachineView) (stage : Stage) (records : List Logged)
    (stands : NodesStand g o st Stands Step_is register_is owners_are old x letters clocks machines c tree) (allowed : AreAllowed c.register.chain)
    (live : IsLive (o.own owners_are) clocks (last c.register.chain) machines node session row before) (rests : Rests before.stage) (unfinished : Contains before.finished gone → ⊥)
    (its : Recovers g o st Stands Step_is register_is owners_are old x (known_of g o st Stands Step_is register_is owners_are old x letters clocks machines) c node session gone slot stage records)
    (alone : (one other block : ℕ) (hold : Hold) → LivesIn (last c.register.chain) one → HasRow (last c.register.chain) other → c.owners.holding one block ≡ Some hold → oldest c.register.chain ≤ other)
    (register_keeps : g.keeps register_is x (with_letters c then_letters).register) (owners_keep : o.keeps owners_are (with_letters c then_letters).owners)
    (keeps : st.keeps new x (with_letters c then_letters).store) (made : st.made new ≡ st.made old)
    (same : (other : ℕ) → (st.own new other ≡ st.own old other) × (st.out_of new other ≡ st.out_of old other))
    (elsewhere : (reader : ℕ) → reader ≢ node → st.asked new reader ≡ st.asked old reader)
    (goes : GoesOn c.store.writes c.store.told.greatest (st.asked old) (st.settled old x c.store) (st.settled new x (with_letters c then_letters).store) (st.will_read old x c.store) (st.will_read new x (with_letters c then_letters).store)
    (st.stands old x c.store) (st.stands new x (with_letters c then_letters).store))
    (changed : IsChanged machines later node (record before { stage = words.Recovers gone (recovery_of slot (st.made old).devices (st.made old).areas stage records); fetch = words.OfLog })) where
  abbrev known : Known
  known = known_of g o st Stands Step_is register_is owners_are old x letters clocks machines

  abbrev Sure : ℕ → ℕ → List ℕ → Type 0
  Sure = SureOf g o st Stands Step_is register_is owners_are old x known c

  abbrev SureBy : Made → ℕ → ℕ → List ℕ → Type 0
  SureBy m = Surely (st.stands new x (with_letters c then_letters).store)
      (IsWithin m.devices m.areas c.register.chain c.owners.holding c.owners.floor (IsOfNode o.by_boot clocks) (λ n. c.store.told.knew (Node n))) c.store.writes c.store.told.greatest

  stood : StandsAt g o st Stands Step_is register_is owners_are new x (record known { letters = then_letters }) (with_letters c then_letters) tree
  stood = stays g o st Stands Step_is register_is register_is owners_are owners_are old new x x known (record known { letters = then_letters }) c
      (with_letters c then_letters).register (with_letters c then_letters).owners (with_letters c then_letters).store tree stands.at
      (record {
        owners_chain = stands.at.pasts.owners_chain;
        store_chain = stands.at.pasts.store_chain;
        letters = refl;
        owners_letters = refl;
        store_letters = refl;
        down = stands.at.pasts.down;
        owners_down = stands.at.pasts.owners_down;
        store_down = stands.at.pasts.store_down;
        boots = stands.at.pasts.boots;
        owners_most = stands.at.pasts.owners_most;
        store_most = stands.at.pasts.store_most;
        owners_boots = stands.at.pasts.owners_boots;
        store_boots = stands.at.pasts.store_boots;
        own_boots = stands.at.pasts.own_boots;
        next_boots = stands.at.pasts.next_boots;
        proposed = stands.at.pasts.proposed;
        owners_greatest = stands.at.pasts.owners_greatest;
        greatest = stands.at.pasts.greatest;
      })
      (record {
        register_keeps = register_keeps;
        owners_keep = owners_keep;
        store_keeps = keeps;
        owners_knew = stands.at.parts.owners_knew;
        store_knew = stands.at.parts.store_knew;
        same_boots = stands.at.parts.same_boots;
        own = λ n is_up. stands.at.parts.own n is_up ∙ sym (same n).0;
      })
      (subst (λ (m : Made). LabelsStand m x) (sym made) stands.at.labels) made
      (record { each = λ s block its_hold is. is }) (λ place. omega arith) (λ s end has. has) refl (omega arith)
      (λ d s content index only is. goes.standing d s content index only is)
      (λ n s its_row has its_lives is. (is, omega arith)) stands.at.sessions (λ n s is its_lives. inl is) (λ n other s is is_other its_lives. stands.single n other s is is_other) stands.at.volume.apart
      stands.at.closings (λ n s place mode block is its_lives has. has) (λ n. inl refl)

  low : slot < 8
  low = slot_low g o st Stands Step_is register_is owners_are old x known c tree stands.at gone slot session live.allowed its.claimed

  -- what it goes with then
  abbrev then_around : Around
  then_around = around g o st Stands Step_is register_is owners_are new x (record known { letters = then_letters }) (with_letters c then_letters) node

  -- its recovery is as it was, but for what it asks for
  unasked : (none : st.asked old node ≡ None)
      → IsRecovering (st.made old).devices (st.made old).areas (SureBy (st.made old)) (st.will_read new x (with_letters c then_letters).store node) c.register.chain (c.store.told.knew (Node node)) c.register.proposed
      (record then_around { asked = None }) session gone slot stage records
  unasked none = goes_on (st.made old).devices (st.made old).areas Sure (SureBy (st.made old)) (st.will_read old x c.store node) (st.will_read new x (with_letters c then_letters).store node)
      (around g o st Stands Step_is register_is owners_are old x known c node) (record then_around { asked = None }) session slot
      (record {
        logs = refl;
        slots = refl;
        before = λ d s inside. refl;
        asked = inr refl;
        out = inl (same node).1;
        sent = λ one has whose. has;
        sure = λ d s content near is. record { index = is.index; is = goes.standing d s content is.index is.only is.is; only = is.only; within = is.within };
        reads = λ asks s content was is near sure read. absurd (let wrong : None ≡ Some asks = is in cc);
      })
      low (log_of g o st Stands Step_is register_is owners_are old x known c tree stands.at gone slot session live.allowed its.claimed)
      (few_records g o st Stands Step_is register_is owners_are old x known c tree stands.at gone slot session live.allowed its.claimed)
      c.register.chain c.register.chain (c.store.told.knew (Node node)) (c.store.told.knew (Node node)) c.register.proposed c.register.proposed gone stage records its its.claimed its.known (λ under_way has. has)

  -- The nodes stand with the read that is out, where its recovery is at the stage with it.
  asks_so : (HasEnded stage → ⊥)
      → IsRecovering (st.made old).devices (st.made old).areas (SureBy (st.made old)) (st.will_read new x (with_letters c then_letters).store node) c.register.chain (c.store.told.knew (Node node)) c.register.proposed then_around session gone slot stage records
      → NodesStand g o st Stands Step_is register_is owners_are new x then_letters clocks later (with_letters c then_letters) tree
  asks_so unended is = still.stands_at_stage g o st Stands Step_is register_is owners_are old new x letters then_letters clocks machines later c tree tree node session gone slot row before records stands live its.claimed its.other alone
      c.before c.logs c.slots c.truth c.doubts (same_course (st.made old).devices (st.made old).areas c slot gone low) made (λ other. (same other).1) elsewhere goes
      stage words.OfLog changed tt (λ wrong. absurd (let e = wrong in cc)) rests unfinished unended stood
      (subst (λ (m : Made). IsRecovering m.devices m.areas (SureBy m) (st.will_read new x (with_letters c then_letters).store node) c.register.chain (c.store.told.knew (Node node)) c.register.proposed then_around session gone slot stage records) (sym made) is)

  mine : own_up clocks.down (o.own owners_are) node ≡ Some session
  mine = own_is clocks.down (o.own owners_are) node session live.up live.own

  -- It asks for the gates, or for a body: what will be read is what stands.
  module _ (none : st.asked old node ≡ None) (asks : Asked) (asked : st.asked new node ≡ Some asks)
      (promise : (sector : ℕ) (content : List ℕ) (index : ℕ) → asks.place ≤ sector → sector < asks.place + asks.count → IsOnly c.store.writes c.store.told.greatest asks.device sector content → st.stands old x c.store asks.device sector content index
      → index ≤ c.store.told.knew (Node node) → st.will_read new x (with_letters c then_letters).store node sector content) where
    pub asks_gates : stage ≡ Gates → asks ≡ gates_asked (st.made old).devices slot → NodesStand g o st Stands Step_is register_is owners_are new x then_letters clocks later (with_letters c then_letters) tree
    asks_gates is gates = asks_so (subst (λ (s : Stage). HasEnded s → ⊥) (sym is) (λ over. over))
        (subst (λ (s : Stage). IsRecovering (st.made old).devices (st.made old).areas (SureBy (st.made old)) (st.will_read new x (with_letters c then_letters).store node) c.register.chain (c.store.told.knew (Node node)) c.register.proposed then_around session gone slot s records) (sym is)
        (gates_are_asked (st.made old).devices (st.made old).areas (SureBy (st.made old)) (st.will_read new x (with_letters c then_letters).store node) c.register.chain (c.store.told.knew (Node node)) c.register.proposed then_around session gone slot records
        (subst (λ (s : Stage). IsRecovering (st.made old).devices (st.made old).areas (SureBy (st.made old)) (st.will_read new x (with_letters c then_letters).store node) c.register.chain (c.store.told.knew (Node node)) c.register.proposed
        (record then_around { asked = None }) session gone slot s records) is (unasked none))
        (asked ∙ ap (λ (a : Asked). Some a) gates)
        (gates_promised g o st Stands Step_is register_is owners_are old x known c tree node session gone slot stage records stands.at allowed its mine (st.will_read new x (with_letters c then_letters).store node) asks.device asks.place asks.count promise
        (ap (λ (a : Asked). a.device) gates) (ap (λ (a : Asked). a.place) gates) (ap (λ (a : Asked). a.count) gates))))

    pub asks_body : (opened : ℕ) → stage ≡ Bodies opened → asks ≡ body_asked (st.made old).devices slot (length records) → NodesStand g o st Stands Step_is register_is owners_are new x then_letters clocks later (with_letters c then_letters) tree
    asks_body opened is body = asks_so (subst (λ (s : Stage). HasEnded s → ⊥) (sym is) (λ over. over))
        (subst (λ (s : Stage). IsRecovering (st.made old).devices (st.made old).areas (SureBy (st.made old)) (st.will_read new x (with_letters c then_letters).store node) c.register.chain (c.store.told.knew (Node node)) c.register.proposed then_around session gone slot s records) (sym is)
        (body_is_asked (st.made old).devices (st.made old).areas (SureBy (st.made old)) (st.will_read new x (with_letters c then_letters).store node) c.register.chain (c.store.told.knew (Node node)) c.register.proposed then_around session gone slot records opened
        (subst (λ (s : Stage). IsRecovering (st.made old).devices (st.made old).areas (SureBy (st.made old)) (st.will_read new x (with_letters c then_letters).store node) c.register.chain (c.store.told.knew (Node node)) c.register.proposed
        (record then_around { asked = None }) session gone slot s records) is (unasked none))
        (asked ∙ ap (λ (a : Asked). Some a) body)
        (body_promised g o st Stands Step_is register_is owners_are old x known c tree node session gone slot stage records stands.at allowed its mine (st.will_read new x (with_letters c then_letters).store node) asks.device asks.place asks.count promise
        (length records) (ap (λ (a : Asked). a.device) body) (ap (λ (a : Asked). a.place) body) (ap (λ (a : Asked). a.count) body))))
