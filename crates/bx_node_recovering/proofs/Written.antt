-- The nodes stand where one's recovery goes on and sends a write.
use Rattle.std.proofs.Common.{◌≡◌, ◌≢◌, ⊎_elim, inl, inr, ◌∙◌, ℕ, ◌+◌, ◌<◌, ◌≤◌, List, ◌∷◌, Contains, Option, Some, None, refl, sym, ap, subst}
use Rattle.bx_base.specs.declared.names.Actor.TheVariants.{Node}
use Rattle.bx_disk.specs.Disks.{Disks, Image}
use Rattle.bx_facts.specs.declared.owners.Owners as owners
use Rattle.bx_facts.specs.declared.register.Register as register
use Rattle.bx_facts.specs.declared.store.Store as store
use Rattle.bx_facts.specs.Chains.{HasRow, LivesIn, last, oldest}
use Rattle.bx_facts.specs.Holds.{Hold}
use Rattle.bx_facts.specs.Writes.{IsOnly, Made, Sent, WritesTo}
use Rattle.bx_facts.proofs.Lists.{front_or_behind}
use Rattle.bx_node_events.proofs.Acting.{IsChanged, IsLive}
use Rattle.bx_node_events.proofs.Sparing.{near_touches, slot_low}
use Rattle.bx_node_events.proofs.Working.{IsHanded}
use Rattle.bx_node_machines.specs.Machines as words
use Rattle.bx_node_machines.specs.Machines.{MachineView, Scene}
use Rattle.bx_node_machines.specs.Nodes.{IsOfNode, NodesStand, known_of, scene_of}
use Rattle.bx_node_machines.specs.Recoveries.{IsUnderWay}
use Rattle.bx_node_machines.specs.Recovering.{HasEnded, IsRecovering, Recovers, around, recovery_of}
use Rattle.bx_node_machines.proofs.Going.{IsNear}
use Rattle.bx_node_recovering.proofs.Beside.{IsInSlot, IsSentBeside, Rests}
use Rattle.bx_node_recovering.proofs.Standing as standing
use Rattle.bx_node_recovering.proofs.Standing.{near_apart, near_unlogged}
use Rattle.bx_node_sends.proofs.Sent.{surely_on, with_write}
use Rattle.bx_places.specs.Places.{block_place}
use Rattle.bx_post.specs.declared.packets.Letter.{Letter}
use Rattle.bx_recover.specs.Recovering.{RecoveryView}
use Rattle.bx_recover.specs.declared.stage.Stage.{Stage}
use Rattle.bx_rows.specs.declared.session.SessionRow.{SessionRow}
use Rattle.bx_views.specs.Attempts.{Deed}
use Rattle.bx_views.specs.Truths.{Hints, Truth}
use Rattle.bx_volume.specs.Overlay.{Logs}
use Rattle.bx_volume.specs.Records.{Logged}
use Rattle.bx_world_chains.specs.Entitled.{IsEntitled}
use Rattle.bx_world_logs.specs.Logs.{Slot}
use Rattle.bx_world_standing.specs.Parts.{Clocks}
use Rattle.bx_world_standing.specs.Rights.{IsWithin, Surely}
use Rattle.bx_world_standing.specs.Standing.{Course, Known, StandsAt, SureOf}
use Rattle.bx_world_views.specs.Views.{Unacknowledged}

-- The node's machine, at a stage of its recovery, with no read out.
abbrev pub at_stage : MachineView → ℕ → RecoveryView → MachineView
at_stage machine gone recovery = record machine { stage = words.Recovers gone recovery; fetch = words.Nothing }

module _ {G O S T : Type 0} (g : register.Ghosts G) (o : owners.Ghosts O) (st : store.Ghosts S) (Stands : Truth → Hints → T → Type 0) (Step_is : T → Deed → T → Type 0)
    (register_is : G) (owners_are : O) (old new : S) (x : Disks) (letters then_letters : List Letter) (clocks : Clocks) (machines later : List MachineView) (c : Course) (tree next : T)
    (node session gone slot : ℕ) (row : SessionRow) (before : MachineView) (stage : Stage) (records : List Logged) (write : Sent)
    (stands : NodesStand g o st Stands Step_is register_is owners_are old x letters clocks machines c tree)
    (live : IsLive (o.own owners_are) clocks (last c.register.chain) machines node session row before)
    (changed : IsChanged machines later node (at_stage before gone (recovery_of slot (st.made old).devices (st.made old).areas stage records)))
    (claimed : IsEntitled (last c.register.chain) gone slot session) (is_other : gone ≢ session)
    (alone : (one other block : ℕ) (hold : Hold) → LivesIn (last c.register.chain) one → HasRow (last c.register.chain) other → c.owners.holding one block ≡ Some hold → oldest c.register.chain ≤ other)
    (before_then : Image) (logs_then : Logs) (slots_then : ℕ → Slot) (truth_then : Truth) (doubts_then : ℕ → Option Unacknowledged)
    (in_slot : IsInSlot (st.made old).devices (st.made old).areas c slot gone before_then logs_then slots_then doubts_then)
    (handed : IsHanded st old new x c.store then_letters node write) (whose : write.session ≡ session)
    (near : (d s : ℕ) (content : List ℕ) → WritesTo write d s content → IsNear (st.made old).devices (st.made old).areas slot (c.logs slot) d s) where
  abbrev known : Known
  known = known_of g o st Stands Step_is register_is owners_are old x letters clocks machines

  abbrev Sure : ℕ → ℕ → List ℕ → Type 0
  Sure = SureOf g o st Stands Step_is register_is owners_are old x known c

  -- which sectors the write brings something to
  abbrev Brings : ℕ → ℕ → Type 0
  Brings d s = (content : List ℕ) × WritesTo write d s content

  -- what was done then
  abbrev pub then_is : Course
  then_is = with_write (record c { before = before_then; logs = logs_then; slots = slots_then; truth = truth_then; doubts = doubts_then }) then_letters write

  abbrev SureBy : Made → ℕ → ℕ → List ℕ → Type 0
  SureBy m = Surely (st.stands new x then_is.store) (IsWithin m.devices m.areas c.register.chain c.owners.holding c.owners.floor (IsOfNode o.by_boot clocks) (λ n. c.store.told.knew (Node n))) (write ∷ c.store.writes) c.store.told.greatest

  low : slot < 8
  low = slot_low g o st Stands Step_is register_is owners_are old x known c tree stands.at gone slot session live.allowed claimed

  brings : IsSentBeside (st.made old).devices (st.made old).areas c session slot Brings (write ∷ c.store.writes) Sure (SureBy (st.made old))
  brings = record {
    touches = λ d s b. near_touches (st.made old).devices (st.made old).areas (last c.register.chain) c.owners.holding c.logs c.slots gone slot session d s low claimed (near d s b.0 b.1);
    apart = λ other d s ne few inside b. near_apart (st.made old).devices (st.made old).areas stands.at.logs.volume c.logs slot low d s (near d s b.0 b.1) other ne few inside;
    homes = λ block i is unlogged few b. near_unlogged (st.made old).devices (st.made old).areas stands.at.logs.volume c.logs slot low (block_place block (st.made old).devices).0 ((block_place block (st.made old).devices).1 + i)
        (near (block_place block (st.made old).devices).0 ((block_place block (st.made old).devices).1 + i) b.0 b.1) block is unlogged (record { device = refl; i = i; few = few; is = refl });
    of_others = λ one has apart. ⊎_elim (λ same. absurd (apart (ap (λ (w : Sent). w.session) (sym same) ∙ whose))) (λ was. was) (front_or_behind write c.store.writes one has);
    was_or = λ one has. ⊎_elim (λ same. inr (λ d s content w. (content, subst (λ (its : Sent). WritesTo its d s content) (sym same) w))) (λ was. inl was) (front_or_behind write c.store.writes one has);
    sure = λ d s content none is. surely_on g o st Stands Step_is register_is owners_are old new x known c tree then_letters node session write stands.at handed.stands d s content (λ other w. none (other, w)) is;
  }

  only_on : (asks_device s : ℕ) (content : List ℕ) → (Brings asks_device s → ⊥) → IsOnly c.store.writes c.store.told.greatest asks_device s content → IsOnly (write ∷ c.store.writes) c.store.told.greatest asks_device s content
  only_on asks_device s content none only = record {
    each = λ one other has w. ⊎_elim
        (λ same. absurd (none (other, subst (λ (its : Sent). WritesTo its asks_device s other) (sym same) w)))
        (λ was. only.each one other was w)
        (front_or_behind write c.store.writes one has);
  }

  -- By what the step says of the whole, and of its recovery then.
  pub stands_written : Rests before.stage → (Contains before.finished gone → ⊥) → (HasEnded stage → ⊥) → st.asked new node ≡ None
      → StandsAt g o st Stands Step_is register_is owners_are new x (record known { letters = then_letters }) then_is next
      → Recovers g o st Stands Step_is register_is owners_are new x (record known { letters = then_letters }) then_is node session gone slot stage records
      → NodesStand g o st Stands Step_is register_is owners_are new x then_letters clocks later then_is next
  stands_written rests unfinished unended none_asked at goes =
      standing.stand_beside g o st Stands Step_is register_is owners_are old new x letters then_letters clocks machines later c tree next node session gone slot row before
      (at_stage before gone (recovery_of slot (st.made old).devices (st.made old).areas stage records))
      stands live changed claimed is_other alone Brings (write ∷ c.store.writes) before_then logs_then slots_then truth_then doubts_then in_slot
      brings handed.made handed.others (λ other ne. handed.asked other)
      (λ other s content asks ne was none sure read. handed.reads other s content asks was (only_on asks.device s content none sure.only) read)
      rests tt refl refl refl refl refl (λ idle. absurd (let wrong = idle in cc)) none_asked tt unfinished (λ one has. inl has) tt
      under_way (λ has. absurd (unfinished has)) at
    where
      one_recovery : (one : ℕ) (recovery : RecoveryView) → words.Recovers gone (recovery_of slot (st.made old).devices (st.made old).areas stage records) ≡ words.Recovers one recovery → (gone ≡ one) × (recovery_of slot (st.made old).devices (st.made old).areas stage records ≡ recovery)
      one_recovery one recovery e = (let a : gone ≡ one = cc in a, let b : recovery_of slot (st.made old).devices (st.made old).areas stage records ≡ recovery = cc in b)

      under_way : (one : ℕ) (recovery : RecoveryView) → words.Recovers gone (recovery_of slot (st.made old).devices (st.made old).areas stage records) ≡ words.Recovers one recovery
          → IsUnderWay (st.made old).devices (st.made old).areas (SureBy (st.made old)) (st.will_read new x then_is.store) c.register.chain (λ n. c.store.told.knew (Node n)) c.register.proposed
          (scene_of g o st Stands Step_is register_is owners_are new x clocks.down later then_is) node session (at_stage before gone (recovery_of slot (st.made old).devices (st.made old).areas stage records)) one recovery
      under_way one recovery e =
          let both = one_recovery one recovery e in
          subst (λ (n : ℕ). IsUnderWay (st.made old).devices (st.made old).areas (SureBy (st.made old)) (st.will_read new x then_is.store) c.register.chain (λ k. c.store.told.knew (Node k)) c.register.proposed
          (scene_of g o st Stands Step_is register_is owners_are new x clocks.down later then_is) node session (at_stage before gone (recovery_of slot (st.made old).devices (st.made old).areas stage records)) n recovery) both.0
          (subst (λ (r : RecoveryView). IsUnderWay (st.made old).devices (st.made old).areas (SureBy (st.made old)) (st.will_read new x then_is.store) c.register.chain (λ k. c.store.told.knew (Node k)) c.register.proposed
          (scene_of g o st Stands Step_is register_is owners_are new x clocks.down later then_is) node session (at_stage before gone (recovery_of slot (st.made old).devices (st.made old).areas stage records)) gone r) both.1
          (record {
            is = refl;
            unended = unended;
            unfinished = unfinished;
            goes = subst (λ (m : Made). IsRecovering m.devices m.areas (SureBy m) (st.will_read new x then_is.store node) c.register.chain (c.store.told.knew (Node node)) c.register.proposed
                (around g o st Stands Step_is register_is owners_are new x (record known { letters = then_letters }) then_is node) session gone slot stage records) handed.made goes;
          }))
