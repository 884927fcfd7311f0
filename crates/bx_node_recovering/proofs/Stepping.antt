-- The nodes stand with what a recovery's step makes of the course, and the write that it sends.
use Rattle.std.proofs.Common.{◌≡◌, ◌≢◌, ◌∙◌, ℕ, ◌<◌, List, Contains, Option, Some, None, sym, subst}
use Rattle.bx_disk.specs.Disks.{Disks, Image}
use Rattle.bx_facts.specs.declared.owners.Owners as owners
use Rattle.bx_facts.specs.declared.register.Register as register
use Rattle.bx_facts.specs.declared.store.Store as store
use Rattle.bx_facts.specs.Chains.{last}
use Rattle.bx_facts.specs.Writes.{Sent, WritesTo}
use Rattle.bx_node_events.proofs.Acting.{IsChanged, IsLive}
use Rattle.bx_node_events.proofs.Sparing.{near_touches, slot_low}
use Rattle.bx_node_events.proofs.Working.{IsHanded, IsSending}
use Rattle.bx_node_machines.specs.Machines as words
use Rattle.bx_node_machines.specs.Machines.{MachineView}
use Rattle.bx_node_machines.specs.Nodes.{NodesStand, known_of, scene_of}
use Rattle.bx_node_machines.specs.Recoveries.{IsActive}
use Rattle.bx_node_machines.specs.Recovering.{HasEnded, Recovers, recovery_of}
use Rattle.bx_node_machines.proofs.Going.{IsNear}
use Rattle.bx_node_recovering.proofs.Beside.{IsInSlot, Rests}
use Rattle.bx_node_recovering.proofs.Sending as sends
use Rattle.bx_node_recovering.proofs.Written as written
use Rattle.bx_node_recovering.proofs.Written.{at_stage}
use Rattle.bx_node_sends.proofs.Sent.{with_write}
use Rattle.bx_post.specs.declared.packets.Letter.{Letter}
use Rattle.bx_recover.specs.Done.{RecoveryStep}
use Rattle.bx_recover.specs.declared.stage.Stage.{Stage}
use Rattle.bx_rows.specs.declared.session.SessionRow.{SessionRow}
use Rattle.bx_views.specs.Attempts.{Deed}
use Rattle.bx_views.specs.Truths.{Hints, Truth}
use Rattle.bx_volume.specs.Overlay.{Logs}
use Rattle.bx_volume.specs.Records.{Logged}
use Rattle.bx_world_logs.specs.Logs.{Slot}
use Rattle.bx_world_standing.specs.Parts.{Clocks}
use Rattle.bx_world_standing.specs.Standing.{Course, Known, StandsAt}
use Rattle.bx_world_standing.proofs.Owns.{own_is}
use Rattle.bx_world_views.specs.Views.{Unacknowledged}

module _ {G O S T : Type 0} (g : register.Ghosts G) (o : owners.Ghosts O) (st : store.Ghosts S) (Stands : Truth → Hints → T → Type 0) (Step_is : T → Deed → T → Type 0)
    (register_is : G) (owners_are : O) (old new : S) (x : Disks) (letters then_letters : List Letter) (clocks : Clocks) (machines later : List MachineView) (c : Course) (tree : T)
    (node session gone slot : ℕ) (row : SessionRow) (before : MachineView) (stage : Stage) (records : List Logged) (write : Sent) (step : RecoveryStep)
    (stands : NodesStand g o st Stands Step_is register_is owners_are old x letters clocks machines c tree)
    (live : IsLive (o.own owners_are) clocks (last c.register.chain) machines node session row before)
    (stage_is : before.stage ≡ words.Recovers gone (recovery_of slot (st.made old).devices (st.made old).areas stage records))
    (none_sent : (other : Sent) → Contains c.store.writes other → other.session ≢ session)
    (sending : IsSending g o st register_is owners_are old new x c then_letters node session write) where
  abbrev known : Known
  known = known_of g o st Stands Step_is register_is owners_are old x letters clocks machines

  its_active : IsActive (scene_of g o st Stands Step_is register_is owners_are old x clocks.down machines c) node session before row
  its_active = record { there = live.there; marked = live.mark; own = own_is clocks.down (o.own owners_are) node session live.up live.own; is_row = live.is_row; lives = live.lives }

  unfinished : Contains before.finished gone → ⊥
  unfinished = (stands.recovering.under node session before row its_active gone (recovery_of slot (st.made old).devices (st.made old).areas stage records) stage_is).unfinished

  -- its recovery, as it was
  pub was : Recovers g o st Stands Step_is register_is owners_are old x known c node session gone slot stage records
  was = (stands.recovering.under node session before row its_active gone (recovery_of slot (st.made old).devices (st.made old).areas stage records) stage_is).goes

  own_st : st.own old node ≡ Some session
  own_st = sym (stands.at.parts.own node live.up) ∙ live.own

  low : slot < 8
  low = slot_low g o st Stands Step_is register_is owners_are old x known c tree stands.at gone slot session live.allowed was.claimed

  -- What is under way, with what the step makes of the course.
  module _ (unended : HasEnded stage → ⊥) (none_asked : st.asked old node ≡ None) (next : T) (stage_then : Stage) (unended_then : HasEnded stage_then → ⊥)
      (changed : IsChanged machines later node (at_stage before gone (recovery_of slot (st.made old).devices (st.made old).areas stage_then records)))
      (before_then : Image) (logs_then : Logs) (slots_then : ℕ → Slot) (truth_then : Truth) (doubts_then : ℕ → Option Unacknowledged)
      (in_slot : IsInSlot (st.made old).devices (st.made old).areas c slot gone before_then logs_then slots_then doubts_then)
      (near : (d s : ℕ) (content : List ℕ) → WritesTo write d s content → IsNear (st.made old).devices (st.made old).areas slot (c.logs slot) d s) where
    handed : IsHanded st old new x c.store then_letters node write
    handed = sends.is_handed g o st Stands Step_is register_is owners_are old new x known c tree then_letters node session write stands.at gone slot live.allowed was.claimed (was.unproposed unended) live.up own_st sending
        (λ d s content w. near_touches (st.made old).devices (st.made old).areas (last c.register.chain) c.owners.holding c.logs c.slots gone slot session d s low was.claimed (near d s content w))

    pub goes_with : StandsAt g o st Stands Step_is register_is owners_are new x (record known { letters = then_letters }) (with_write (record c { before = before_then; logs = logs_then; slots = slots_then; truth = truth_then; doubts = doubts_then }) then_letters write) next
        → Recovers g o st Stands Step_is register_is owners_are new x (record known { letters = then_letters }) (with_write (record c { before = before_then; logs = logs_then; slots = slots_then; truth = truth_then; doubts = doubts_then }) then_letters write)
        node session gone slot stage_then records
        → NodesStand g o st Stands Step_is register_is owners_are new x then_letters clocks later (with_write (record c { before = before_then; logs = logs_then; slots = slots_then; truth = truth_then; doubts = doubts_then }) then_letters write) next
    goes_with at goes = written.stands_written g o st Stands Step_is register_is owners_are old new x letters then_letters clocks machines later c tree next node session gone slot row before stage_then records write
        stands live changed was.claimed was.other sending.alone before_then logs_then slots_then truth_then doubts_then in_slot handed sending.whose near
        (subst (λ (s : words.Stage). Rests s) (sym stage_is) tt) unfinished unended_then (handed.asked node ∙ none_asked) at goes
