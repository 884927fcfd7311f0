-- A recovery sends a write: it may be sent, its store says what comes of it, and it is out.
use Rattle.std.proofs.Common.{◌≡◌, ◌≢◌, ⊎_elim, inl, inr, ◌∙◌, ℕ, ◌<◌, false, List, ◌∷◌, Contains, length, Some, refl, sym, subst}
use Rattle.bx_base.specs.declared.names.Actor.TheVariants.{Node}
use Rattle.bx_disk.specs.Disks.{Disks}
use Rattle.bx_facts.specs.declared.owners.Owners as owners
use Rattle.bx_facts.specs.declared.register.Register as register
use Rattle.bx_facts.specs.declared.store.Store as store
use Rattle.bx_facts.specs.Chains.{LivesIn, last, oldest}
use Rattle.bx_facts.specs.Writes.{IsSettled, Made, Sent, WritesIn, WritesTo}
use Rattle.bx_facts.proofs.Lists.{front_or_behind}
use Rattle.bx_global.specs.Allowed.{IsAllowed}
use Rattle.bx_global.specs.declared.change.Change.TheVariants.{Close}
use Rattle.bx_node_events.proofs.Sparing.{log_of, slot_low}
use Rattle.bx_node_events.proofs.Working.{IsHanded, IsSending}
use Rattle.bx_node_machines.specs.Machines.{IsFlying}
use Rattle.bx_node_machines.specs.Recovering.{AreAsRead, IsRecovering, Recovers, around, gates_back, gates_shut}
use Rattle.bx_node_machines.proofs.Going.{of_first, of_gates, of_others}
use Rattle.bx_node_recovering.proofs.Surely.{one_sure}
use Rattle.bx_node_recovers.proofs.Sending.{homes_touch, slot_touches}
use Rattle.bx_node_recovers.proofs.Sent as sent
use Rattle.bx_node_sends.proofs.Sent.{with_write}
use Rattle.bx_node_views.proofs.Touching.{may_write}
use Rattle.bx_post.specs.declared.packets.Letter.{Letter}
use Rattle.bx_records.specs.declared.runs.Run.{Run}
use Rattle.bx_recover.specs.declared.stage.Stage.{Stage}
use Rattle.bx_redo.specs.Homes.{AreItsHomes}
use Rattle.bx_redo.specs.declared.work.Work.TheVariants as works
use Rattle.bx_views.specs.Attempts.{Deed}
use Rattle.bx_views.specs.Truths.{Hints, Truth}
use Rattle.bx_volume.specs.Records.{Logged, gate_of}
use Rattle.bx_world_chains.specs.Entitled.{IsEntitled}
use Rattle.bx_world_logs.specs.Logs.{Found, IsLogOf, OfLog}
use Rattle.bx_world_standing.specs.Rights.{IsOfSlot, IsWithin, MayTouch, Surely}
use Rattle.bx_world_standing.specs.Sessions.{IsOfNode}
use Rattle.bx_world_standing.specs.Standing.{Course, Known, StandsAt, SureOf}

module _ {G O S T : Type 0} (g : register.Ghosts G) (o : owners.Ghosts O) (st : store.Ghosts S) (Stands : Truth → Hints → T → Type 0) (Step_is : T → Deed → T → Type 0)
    (register_is : G) (owners_are : O) (old new : S) (x : Disks) (known : Known) (c : Course) (tree : T) (letters : List Letter) (node session : ℕ) (write : Sent)
    (at : StandsAt g o st Stands Step_is register_is owners_are old x known c tree)
    (gone slot : ℕ) (allowed : IsAllowed (last c.register.chain)) (entitled : IsEntitled (last c.register.chain) gone slot session)
    (unproposed : Contains c.register.proposed (Close gone session) → ⊥)
    (up : known.clocks.down (Node node) ≡ false) (own : st.own old node ≡ Some session)
    (sending : IsSending g o st register_is owners_are old new x c letters node session write) where
  low : slot < 8
  low = slot_low g o st Stands Step_is register_is owners_are old x known c tree at gone slot session allowed entitled

  log : IsLogOf (SureOf g o st Stands Step_is register_is owners_are old x known c) (st.made old).devices (st.made old).areas c.before c.logs slot (c.slots slot)
  log = log_of g o st Stands Step_is register_is owners_are old x known c tree at gone slot session allowed entitled

  -- Where its session may write each of its sectors, it may be sent.
  pub is_handed : ((d s : ℕ) (content : List ℕ) → WritesTo write d s content → MayTouch (st.made old).devices (st.made old).areas (last c.register.chain) c.owners.holding c.logs c.slots session d s) → IsHanded st old new x c.store letters node write
  is_handed touches = sending.handed (may_write (st.made old).devices (st.made old).areas at.logs.volume (last c.register.chain) c.owners.holding (oldest c.register.chain) c.logs c.slots at.volume.rows at.volume.apart sending.alone at.rights at.logs.once allowed
      c.owners.leases c.store.writes c.store.told.greatest write at.writes (subst (λ (n : ℕ). LivesIn (last c.register.chain) n) (sym sending.whose) entitled.lives) sending.relied
      (λ d s content w. subst (λ (n : ℕ). MayTouch (st.made old).devices (st.made old).areas (last c.register.chain) c.owners.holding c.logs c.slots n d s) (sym sending.whose) (touches d s content w)))

  in_slot : (runs : List Run) → write.runs ≡ runs → ((d s : ℕ) (content : List ℕ) → WritesIn runs d s content → IsOfSlot (st.made old).devices slot d s) → IsHanded st old new x c.store letters node write
  in_slot runs runs_are inside = is_handed (λ d s content w.
      slot_touches (st.made old).devices (st.made old).areas (last c.register.chain) c.owners.holding c.logs c.slots gone session slot low entitled d s (inside d s content (subst (λ (l : List Run). WritesIn l d s content) runs_are w)))

  its : (handed : IsHanded st old new x c.store letters node write) → sent.IsHanded g o st Stands Step_is register_is owners_are old new x known c tree letters node session write at gone slot allowed entitled unproposed handed.stands
  its handed = record {
    up = up;
    own = own;
    whose = sending.whose;
    register_keeps = sending.register_keeps;
    owners_keep = sending.owners_keep;
    store_keeps = handed.keeps;
    made = handed.made;
    same_own = handed.own;
    end = sending.end;
    opened = sending.opened;
  }

  -- It is out, the only one of its session, where there was none.
  pub is_flying : (runs : List Run) → write.runs ≡ runs → ((other : Sent) → Contains c.store.writes other → other.session ≢ session) → IsHanded st old new x c.store letters node write
      → IsFlying session runs (st.out_of new node) (write ∷ c.store.writes)
  is_flying runs runs_are none handed = record {
    write = write;
    whose = sending.whose;
    runs_are = runs_are;
    once = λ d s content other one two. sending.once d s content other (subst (λ (l : List Run). WritesIn l d s content) (sym runs_are) one) (subst (λ (l : List Run). WritesIn l d s other) (sym runs_are) two);
    is_out = handed.is_out;
    only = λ other has whose. ⊎_elim (λ same. sym same) (λ behind. absurd (none other behind whose)) (front_or_behind write c.store.writes other has);
  }

  -- what stands surely then, by what a store is made for
  abbrev pub SureBy : Made → ℕ → ℕ → List ℕ → Type 0
  SureBy made = Surely (st.stands new x (with_write c letters write).store)
      (IsWithin made.devices made.areas c.register.chain c.owners.holding c.owners.floor (IsOfNode o.by_boot known.clocks) (λ n. c.store.told.knew (Node n)))
      (write ∷ c.store.writes) c.store.told.greatest

  -- A recovery that goes on with it does so by the store that has it.
  pub recovers_on : (stage : Stage) (records : List Logged) → IsHanded st old new x c.store letters node write
      → IsRecovering (st.made old).devices (st.made old).areas (SureBy (st.made old)) (st.will_read new x (with_write c letters write).store node) c.register.chain (c.store.told.knew (Node node)) c.register.proposed
      (around g o st Stands Step_is register_is owners_are new x (record known { letters = letters }) (with_write c letters write) node) session gone slot stage records
      → Recovers g o st Stands Step_is register_is owners_are new x (record known { letters = letters }) (with_write c letters write) node session gone slot stage records
  recovers_on stage records handed is = subst (λ (made : Made).
      IsRecovering made.devices made.areas (SureBy made) (st.will_read new x (with_write c letters write).store node) c.register.chain (c.store.told.knew (Node node)) c.register.proposed
      (around g o st Stands Step_is register_is owners_are new x (record known { letters = letters }) (with_write c letters write) node) session gone slot stage records) (sym handed.made) is

  -- What stands with it.
  abbrev pub Stood : Type 0
  Stood = IsHanded st old new x c.store letters node write × StandsAt g o st Stands Step_is register_is owners_are new x (record known { letters = letters }) (with_write c letters write) tree

  -- The gates as they were read; what stands surely is one content.
  pub gates_go : (gates : List ℕ) → length gates ≡ 4096 → write.runs ≡ gates_back (st.made old).devices slot gates
      → ((device sector : ℕ) (content : List ℕ) (index : ℕ) → st.stands old x c.store device sector content index → IsSettled x (last c.store.told.chain) device sector content)
      → AreAsRead (st.made old).devices (around g o st Stands Step_is register_is owners_are old x known c node) slot gates → Stood
  gates_go gates long runs_are settled as_read = (
    handed,
    sent.gates_sent_at g o st Stands Step_is register_is owners_are old new x known c tree letters node session write at gone slot allowed entitled unproposed handed.stands (its handed) gates long runs_are
        (λ gate content few still sure. as_read gate few still ∙ one_sure (st.stands old x c.store) x (last c.store.told.chain) settled _ c.store.writes c.store.told.greatest _ _ (gate_of c.before (st.made old).devices slot gate) content (log.gates gate few still) sure),
  )
    where
      handed : IsHanded st old new x c.store letters node write
      handed = in_slot (gates_back (st.made old).devices slot gates) runs_are (of_gates (st.made old).devices slot gates long)

  -- The homes of the log's blocks.
  pub homes_go : (runs : List Run) → write.runs ≡ runs → (c.slots slot).activity ≡ Found → AreItsHomes (st.made old).devices (st.made old).areas c.logs slot runs → Stood
  homes_go runs runs_are found homes = (
    handed,
    sent.homes_sent_at g o st Stands Step_is register_is owners_are old new x known c tree letters node session write at gone slot allowed entitled unproposed handed.stands (its handed) runs runs_are found homes,
  )
    where
      handed : IsHanded st old new x c.store letters node write
      handed = is_handed (λ d s content w. homes_touch (st.made old).devices (st.made old).areas (last c.register.chain) c.owners.holding c.logs c.slots gone session slot low entitled runs homes d s content (subst (λ (l : List Run). WritesIn l d s content) runs_are w))

  -- The closing of gate 0, or of the others.
  pub first_goes : (c.slots slot).activity ≡ OfLog works.Closes → write.runs ≡ gates_shut (st.made old).devices slot works.Closes → Stood
  first_goes doing runs_are = (
    handed,
    sent.closing_sent_at g o st Stands Step_is register_is owners_are old new x known c tree letters node session write at gone slot allowed entitled unproposed handed.stands (its handed) works.Closes (inl refl) doing runs_are,
  )
    where
      handed : IsHanded st old new x c.store letters node write
      handed = in_slot (gates_shut (st.made old).devices slot works.Closes) runs_are (of_first (st.made old).devices slot)

  pub others_go : (c.slots slot).activity ≡ OfLog works.Shuts → write.runs ≡ gates_shut (st.made old).devices slot works.Shuts → Stood
  others_go doing runs_are = (
    handed,
    sent.closing_sent_at g o st Stands Step_is register_is owners_are old new x known c tree letters node session write at gone slot allowed entitled unproposed handed.stands (its handed) works.Shuts (inr refl) doing runs_are,
  )
    where
      handed : IsHanded st old new x c.store letters node write
      handed = in_slot (gates_shut (st.made old).devices slot works.Shuts) runs_are (of_others (st.made old).devices slot)
