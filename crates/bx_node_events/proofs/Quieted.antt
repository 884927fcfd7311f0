-- A node that has no write out leaves out what its session wrote: none of it may be taken any more. The nodes stand.
use Rattle.std.proofs.Common.{◌≡◌, ◌≢◌, inr, ⊎_elim, ℕ, ◌+◌, ◌≤◌, Bool, true, false, List, [], ◌∷◌, Contains, Some, refl, ap, subst, arith}
use Rattle.std.specs.Prelude.{◌==◌, filter, if◌then◌else◌, not}
use Rattle.std.proofs.lemmas.Bool.Decides.{nat_tests}
use Rattle.bx_disk.specs.Disks.{Disks}
use Rattle.bx_facts.specs.declared.register.Register as register
use Rattle.bx_facts.specs.declared.store.Store as store
use Rattle.bx_facts.specs.Chains.{AreLegal, HasRow, LivesIn, last, oldest}
use Rattle.bx_facts.specs.Holds.{Hold}
use Rattle.bx_facts.specs.Writes.{GoesOn, Sent, without_session}
use Rattle.bx_facts.proofs.Lists.{behind, front, front_or_behind, nothing}
use Rattle.bx_node_machines.specs.Machines.{MachineView}
use Rattle.bx_node_machines.specs.Nodes.{NodesStand, known_of}
use Rattle.bx_node_events.proofs.Passing.{passes}
use Rattle.bx_facts.specs.declared.owners.Owners as owners
use Rattle.bx_post.specs.declared.packets.Letter.{Letter}
use Rattle.bx_views.specs.Attempts.{Deed}
use Rattle.bx_views.specs.Truths.{Hints, Truth}
use Rattle.bx_world_chains.specs.Entitled.{AreAllowed}
use Rattle.bx_world_standing.specs.Parts.{Clocks}
use Rattle.bx_world_standing.specs.Standing.{Course}
use Rattle.bx_world_stays.proofs.Drops.{dropped_course, drops}

-- those of other sessions are left, and none of this one
left_in : (session : ℕ) (writes : List Sent) (write : Sent) → Contains (filter (λ (one : Sent). not (one.session == session)) writes) write → Contains writes write × (write.session ≢ session)
left_in session [] write has = absurd (nothing write has)
left_in session (one ∷ rest) write has = by (left_in session rest write) (one.session == session) refl has
  where
    by : (Contains (filter (λ (one : Sent). not (one.session == session)) rest) write → Contains rest write × (write.session ≢ session)) → (b : Bool) → (one.session == session) ≡ b
        → Contains (if not b then one ∷ filter (λ (one : Sent). not (one.session == session)) rest else filter (λ (one : Sent). not (one.session == session)) rest) write → Contains (one ∷ rest) write × (write.session ≢ session)
    by later true same there = let k = later there in (behind one rest write k.0, k.1)
    by later false differ there = ⊎_elim
        (λ is. (
          subst (λ (w : Sent). Contains (one ∷ rest) w) is (front one rest),
          λ e. (let f = ap (λ (w : Sent). w.session) is in grind (arith, nat_tests, differ, e, f)),
        ))
        (λ more. let k = later more in (behind one rest write k.0, k.1))
        (front_or_behind one (filter (λ (one : Sent). not (one.session == session)) rest) write there)

module _ {G O S T : Type 0} (g : register.Ghosts G) (o : owners.Ghosts O) (st : store.Ghosts S) (Stands : Truth → Hints → T → Type 0) (Step : T → Deed → T → Type 0)
    (register_is : G) (owners_are : O) (store_is : S) (x : Disks) (letters : List Letter) (clocks : Clocks) (machines : List MachineView) (c : Course) (tree : T) (session : ℕ)
    (stands : NodesStand g o st Stands Step register_is owners_are store_is x letters clocks machines c tree)
    (allowed : AreAllowed c.register.chain) (legal : AreLegal c.register.chain.first c.register.chain.changes)
    (keeps : st.keeps store_is x (without_session c.store session))
    (goes : GoesOn c.store.writes c.store.told.greatest (st.asked store_is) (st.settled store_is x c.store) (st.settled store_is x (without_session c.store session))
    (st.will_read store_is x c.store) (st.will_read store_is x (without_session c.store session)) (st.stands store_is x c.store) (st.stands store_is x (without_session c.store session)))
    (lives : (session end : ℕ) → Contains c.owners.leases (session, end) → c.owners.told.greatest ≤ end + 500 → LivesIn (last c.register.chain) session)
    (alone : (one other block : ℕ) (hold : Hold) → LivesIn (last c.register.chain) one → HasRow (last c.register.chain) other → c.owners.holding one block ≡ Some hold → oldest c.register.chain ≤ other) where
  abbrev pub quiet_course : Course
  quiet_course = dropped_course c (without_session c.store session).writes

  -- None of the session's writes is left.
  pub none_sent : (write : Sent) → Contains quiet_course.store.writes write → write.session ≢ session
  none_sent write has = (left_in session c.store.writes write has).1

  was_sent : (write : Sent) → Contains quiet_course.store.writes write → Contains c.store.writes write
  was_sent write has = (left_in session c.store.writes write has).0

  pub quieted : NodesStand g o st Stands Step register_is owners_are store_is x letters clocks machines quiet_course tree
  quieted = passes g o st Stands Step register_is register_is owners_are owners_are store_is store_is x x letters letters clocks clocks machines c tree c.register c.owners (without_session c.store session)
      stands.at stands.about stands.recovering stands.given allowed legal
      (drops g o st Stands Step register_is owners_are store_is x (known_of g o st Stands Step register_is owners_are store_is x letters clocks machines) c tree (without_session c.store session).writes stands.at was_sent keeps goes.standing)
      refl (λ gone by there. there) (record { each = λ one block hold is. is }) (λ block. omega arith) was_sent (omega arith) (λ node its row is alive of. (of, omega arith)) goes.standing
      (λ node its s content asks own is still only was. goes.reading node s content asks is only was)
      (λ node its row is alive of own. own) (λ node its own apart. absurd (apart own)) (λ node its own. inr refl) (λ node its own. inr refl)
      (λ node write own out none live. absurd (let wrong = out in let no = none in cc))
      lives alone stands.told
