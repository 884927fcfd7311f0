-- The nodes stand where a recovery tells its points, and where it is over.
use Rattle.std.proofs.Common.{◌≡◌, ◌≢◌, ◌⊎◌, ◌∙◌, ℕ, ◌<◌, ◌≤◌, true, List, ◌∷◌, Contains, length, map, Some, None, refl, sym, ap, subst}
use Rattle.bx_disk.specs.Disks.{Disks}
use Rattle.bx_facts.specs.declared.owners.Owners as owners
use Rattle.bx_facts.specs.declared.register.Register as register
use Rattle.bx_facts.specs.declared.store.Store as store
use Rattle.bx_facts.specs.Chains.{HasRow, LivesIn, last, oldest}
use Rattle.bx_facts.specs.Holds.{Hold}
use Rattle.bx_facts.specs.Writes.{IsSettled, Sent}
use Rattle.bx_global.specs.declared.change.Change.TheVariants.{Close}
use Rattle.bx_logs.specs.Bodies.{point_of}
use Rattle.bx_node_events.proofs.Acting.{IsChanged, IsLive}
use Rattle.bx_node_events.proofs.Sparing.{slot_low}
use Rattle.bx_node_machines.specs.Machines as words
use Rattle.bx_node_machines.specs.Machines.{MachineView}
use Rattle.bx_node_machines.specs.Nodes.{NodesStand, known_of, scene_of}
use Rattle.bx_node_machines.specs.Recoveries.{IsActive}
use Rattle.bx_node_machines.specs.Recovering.{IsBodyAsRead, Recovers, around, recovery_of}
use Rattle.bx_node_recovering.proofs.Beside.{Rests}
use Rattle.bx_node_recovering.proofs.Closing as closing
use Rattle.bx_node_recovering.proofs.Slots.{in_slot_landed, stored_same}
use Rattle.bx_node_recovering.proofs.Still as still
use Rattle.bx_node_recovering.proofs.Telling as telling
use Rattle.bx_node_recovering.proofs.Written.{at_stage}
use Rattle.bx_post.specs.declared.packets.Letter.{Letter}
use Rattle.bx_recover.specs.Done.{HasRun, RecoveryStep}
use Rattle.bx_recover.specs.declared.moves.Move.TheVariants.{Acked, Closed as Ended}
use Rattle.bx_recover.specs.declared.stage.Stage.{Stage}
use Rattle.bx_recover.specs.declared.stage.Stage.TheVariants.{Bodies, Shuts, Told}
use Rattle.bx_redo.specs.declared.work.Work.TheVariants as works
use Rattle.bx_rows.specs.declared.session.SessionRow.{SessionRow}
use Rattle.bx_views.specs.Attempts.{Deed}
use Rattle.bx_views.specs.Truths.{Hints, Truth}
use Rattle.bx_volume.specs.Records.{Logged}
use Rattle.bx_world_logs.specs.Logs.{Activity, idle, view_of, writes_in}
use Rattle.bx_world_standing.specs.Parts.{Clocks}
use Rattle.bx_world_standing.specs.Standing.{Course, Known, SureOf}
use Rattle.bx_world_standing.proofs.Owns.{own_is}

module _ {G O S T : Type 0} (g : register.Ghosts G) (o : owners.Ghosts O) (st : store.Ghosts S) (Stands : Truth → Hints → T → Type 0) (Step_is : T → Deed → T → Type 0)
    (register_is : G) (owners_are : O) (store_is : S) (x : Disks) (letters : List Letter) (clocks : Clocks) (machines later : List MachineView) (c : Course) (tree : T)
    (node session gone slot : ℕ) (row : SessionRow) (before : MachineView) (stage : Stage) (records : List Logged) (step : RecoveryStep)
    (stands : NodesStand g o st Stands Step_is register_is owners_are store_is x letters clocks machines c tree)
    (live : IsLive (o.own owners_are) clocks (last c.register.chain) machines node session row before)
    (stage_is : before.stage ≡ words.Recovers gone (recovery_of slot (st.made store_is).devices (st.made store_is).areas stage records))
    (none_sent : (other : Sent) → Contains c.store.writes other → other.session ≢ session)
    (alone : (one other block : ℕ) (hold : Hold) → LivesIn (last c.register.chain) one → HasRow (last c.register.chain) other → c.owners.holding one block ≡ Some hold → oldest c.register.chain ≤ other) where
  abbrev known : Known
  known = known_of g o st Stands Step_is register_is owners_are store_is x letters clocks machines

  its_active : IsActive (scene_of g o st Stands Step_is register_is owners_are store_is x clocks.down machines c) node session before row
  its_active = record { there = live.there; marked = live.mark; own = own_is clocks.down (o.own owners_are) node session live.up live.own; is_row = live.is_row; lives = live.lives }

  unfinished : Contains before.finished gone → ⊥
  unfinished = (stands.recovering.under node session before row its_active gone (recovery_of slot (st.made store_is).devices (st.made store_is).areas stage records) stage_is).unfinished

  -- its recovery, as it was
  pub was : Recovers g o st Stands Step_is register_is owners_are store_is x known c node session gone slot stage records
  was = (stands.recovering.under node session before row its_active gone (recovery_of slot (st.made store_is).devices (st.made store_is).areas stage records) stage_is).goes

  pub low : slot < 8
  low = slot_low g o st Stands Step_is register_is owners_are store_is x known c tree stands.at gone slot session live.allowed was.claimed

  rests : Rests before.stage
  rests = subst (λ (s : words.Stage). Rests s) (sym stage_is) tt

  -- Its points are told: by the run that was read the log is found.
  module _ (settled_is : (device sector : ℕ) (content : List ℕ) (index : ℕ) → st.stands store_is x c.store device sector content index → IsSettled x (last c.store.told.chain) device sector content)
      (opened : ℕ) (bytes : List ℕ) (came : step.arrived ≡ Some bytes) (asked : st.asked store_is node ≡ None) (unproposed : Contains c.register.proposed (Close gone session) → ⊥)
      (bodies : Recovers g o st Stands Step_is register_is owners_are store_is x known c node session gone slot (Bodies opened) records)
      (reads : IsBodyAsRead (st.made store_is).devices (around g o st Stands Step_is register_is owners_are store_is x known c node) slot (length records) bytes)
      (read : List Logged) (has : HasRun (recovery_of slot (st.made store_is).devices (st.made store_is).areas Told read) (step ∷ bodies.steps)) (gates_are : has.settled.gates ≡ bodies.done.1.gates)
      (said : step.said ≡ Acked (map point_of read)) (some : 0 < length read)
      (changed : IsChanged machines later node (at_stage before gone (recovery_of slot (st.made store_is).devices (st.made store_is).areas Told read))) where
    abbrev pub told_then : Course
    told_then = telling.told_course g o st Stands Step_is register_is owners_are store_is x known c tree node session gone slot stands.at live.allowed low none_sent settled_is bodies.claimed bodies.other unproposed Told read (step ∷ bodies.steps) has
        (telling.sure_then g o st Stands Step_is register_is owners_are store_is x known c tree node session gone slot stands.at live.allowed low none_sent settled_is bodies.claimed bodies.other unproposed opened records step bytes came asked bodies reads read has gates_are)
        (telling.then_bodies g o st Stands Step_is register_is owners_are store_is x known c tree node session gone slot stands.at live.allowed low none_sent settled_is bodies.claimed bodies.other unproposed opened records step bytes came asked bodies reads)

    pub tells : (next : T) × telling.GoesTo g o st Stands Step_is register_is owners_are store_is x known c tree node session gone slot stands.at live.allowed low none_sent settled_is bodies.claimed bodies.other unproposed next
        × NodesStand g o st Stands Step_is register_is owners_are store_is x letters clocks later told_then next
    tells =
        let all = telling.tells_then g o st Stands Step_is register_is owners_are store_is x known c tree node session gone slot stands.at live.allowed low none_sent settled_is bodies.claimed bodies.other unproposed opened records step bytes came asked bodies reads
        read has gates_are said some in (
          all.0,
          all.1,
          still.quiet_at_stage g o st Stands Step_is register_is owners_are store_is x letters clocks machines later c tree all.0 node session gone slot row before read stands live bodies.claimed bodies.other alone
              told_then.before told_then.logs told_then.slots told_then.truth told_then.doubts
              (telling.told_in_slot g o st Stands Step_is register_is owners_are store_is x known c tree node session gone slot stands.at live.allowed low none_sent settled_is bodies.claimed bodies.other unproposed Told read (step ∷ bodies.steps) has
              (telling.sure_then g o st Stands Step_is register_is owners_are store_is x known c tree node session gone slot stands.at live.allowed low none_sent settled_is bodies.claimed bodies.other unproposed opened records step bytes came asked bodies reads read has gates_are)
              (telling.then_bodies g o st Stands Step_is register_is owners_are store_is x known c tree node session gone slot stands.at live.allowed low none_sent settled_is bodies.claimed bodies.other unproposed opened records step bytes came asked bodies reads))
              Told words.Nothing changed tt (λ same. asked) rests unfinished (λ over. over) all.2 all.3,
        )

  -- The other gates are closed, and that is done: it is over.
  pub is_over : (finished : List ℕ) → IsChanged machines later node (record before { stage = words.Idle; fetch = words.Nothing; finished = finished }) → ((one : ℕ) → Contains finished one → Contains before.finished one ⊎ (one ≡ gone))
      → st.out_of store_is node ≡ None → step.done ≡ true → step.said ≡ Ended → Recovers g o st Stands Step_is register_is owners_are store_is x known c node session gone slot Shuts records
      → NodesStand g o st Stands Step_is register_is owners_are store_is x letters clocks later
      (closing.others_then g o st Stands Step_is register_is owners_are store_is x known c tree node session gone slot stands.at live.allowed none_sent records step) tree
  is_over finished changed only none is_done said shuts =
      let then_is = closing.others_then g o st Stands Step_is register_is owners_are store_is x known c tree node session gone slot stands.at live.allowed none_sent records step in
      let both = closing.ends g o st Stands Step_is register_is owners_are store_is x known c tree node session gone slot stands.at live.allowed none_sent records step none is_done said shuts in
      still.quiet_ended g o st Stands Step_is register_is owners_are store_is x letters clocks machines later c tree tree node session gone slot row before records stands live shuts.claimed shuts.other alone
      then_is.before then_is.logs then_is.slots then_is.truth then_is.doubts
      (in_slot_landed (st.made store_is).devices (st.made store_is).areas c slot gone low (record { activity = idle; more = (c.slots slot).more }) (λ e. cc)
      (SureOf g o st Stands Step_is register_is owners_are store_is x known c) (last c.register.chain).sessions stands.at.logs then_is.before c.logs c.doubts
      (λ d s apart. stored_same c.before (view_of (st.made store_is).devices slot (length (c.logs slot)) works.Shuts) d s (ap (λ (a : Activity). writes_in (st.made store_is).devices slot (length (c.logs slot)) a d s) (sym shuts.at.1) ∙ apart))
      (λ other ne. refl) (λ block unlogged unwritten. unlogged slot low) (λ other ne. refl))
      finished changed only none shuts.at.0 rests unfinished both.0 both.1
