-- An event passes that leaves nodes, caches, logs and the chain as they were: letters come and go, holds grow, machines stop and start, disks change, writes are over. Each node
-- whose session stays its own is about what it was about; a write of it that is done stands surely then.
use Rattle.std.proofs.Common.{◌≡◌, ◌≢◌, ◌⊎◌, ⊎_elim, inl, inr, ◌∙◌, ℕ, ◌+◌, ◌≤◌, ◌<◌, List, Contains, Option, Some, None, refl, sym, ap, subst, arith}
use Rattle.std.specs.Prelude.{slice_get}
use Rattle.bx_base.specs.declared.names.Actor.TheVariants.{Node}
use Rattle.bx_base.specs.declared.names.Mode.{Mode}
use Rattle.bx_disk.specs.Disks.{Disks}
use Rattle.bx_facts.specs.declared.register.Register as register
use Rattle.bx_facts.specs.declared.store.Store as store
use Rattle.bx_facts.specs.Chains.{AreLegal, HasRow, LivesIn, last, oldest}
use Rattle.bx_facts.specs.Holds.{Hold, Holds, KeepsHolds, OwnersPast}
use Rattle.bx_facts.specs.Pasts.{RegisterPast}
use Rattle.bx_facts.specs.Writes.{Asked, IsOnly, IsOver, Made, MayWrite, Sent, StorePast, WritesIn, WritesTo}
use Rattle.bx_global.specs.Allowed.{IsAllowed}
use Rattle.bx_node_events.proofs.Sparing.{claims_stay, near_touches, recover_then}
use Rattle.bx_global.specs.declared.change.Change.TheVariants.{Close}
use Rattle.bx_node_machines.specs.Machines.{AreAbout, IsFlying, IsWriting, MachineView, Scene, home_of}
use Rattle.bx_node_machines.specs.Nodes.{IsOfNode, NodesStand, known_of, scene_of}
use Rattle.bx_node_machines.specs.Recoveries.{AreRecovering, IsActive, around_in}
use Rattle.bx_node_machines.proofs.Going.{SparesSlot}
use Rattle.bx_node_machines.proofs.Hearing.{hears}
use Rattle.bx_node_machines.proofs.Leaving.{Leaves}
use Rattle.bx_node_machines.proofs.Ongoing.{same_active}
use Rattle.bx_node_machines.proofs.Owning as owning
use Rattle.bx_node_views.proofs.Reaching.{reaches}
use Rattle.bx_node_views.proofs.Touching.{may_write}
use Rattle.bx_facts.specs.declared.owners.Owners as owners
use Rattle.bx_places.specs.Places.{block_place}
use Rattle.bx_post.specs.declared.packets.Letter.{Letter}
use Rattle.bx_records.specs.declared.runs.Run.{Run}
use Rattle.bx_rows.specs.Words.{row_in}
use Rattle.bx_rows.specs.declared.session.SessionRow.{SessionRow}
use Rattle.bx_views.specs.Attempts.{Deed}
use Rattle.bx_views.specs.Truths.{Hints, Truth}
use Rattle.bx_world_chains.specs.Entitled.{AreAllowed, IsEntitled}
use Rattle.bx_world_chains.proofs.Chains.{index_most, last_place}
use Rattle.bx_world_chains.proofs.Rows.{lives_of}
use Rattle.bx_world_standing.specs.Parts.{Clocks}
use Rattle.bx_world_standing.specs.Rights.{IsWithin, MayTouch, Surely}
use Rattle.bx_world_standing.specs.Standing.{Course, StandsAt, SureOf, own_up}
use Rattle.bx_world_standing.proofs.Told.{one_owner, own_of_node}
use Rattle.bx_world_stays.proofs.Stays.{within_stays}
use Rattle.bx_world_views.specs.Views.{Allows}

-- what a hold allows, one that stays allows
allows_on : (old new : Holds) (session block : ℕ) (mode : Mode) → KeepsHolds old new → Allows (old session block) mode → Allows (new session block) mode
allows_on old new session block mode keeps allows = by (old session block) refl allows
  where
    by : (hold : Option Hold) → old session block ≡ hold → Allows hold mode → Allows (new session block) mode
    by None is allowed = absurd allowed
    by (Some hold) is allowed = subst (λ (h : Option Hold). Allows h mode) (sym (keeps.each session block hold is)) allowed

module _ {G O S T : Type 0} (g : register.Ghosts G) (o : owners.Ghosts O) (st : store.Ghosts S) (Stands : Truth → Hints → T → Type 0) (Step : T → Deed → T → Type 0)
    (register_is register_then : G) (owners_are owners_then : O) (store_is store_then : S) (x y : Disks) (letters then_letters : List Letter) (clocks clocks_then : Clocks) (machines : List MachineView) (c : Course) (tree : T)
    (r : RegisterPast) (op : OwnersPast) (sp : StorePast)
    (at_first : StandsAt g o st Stands Step register_is owners_are store_is x (known_of g o st Stands Step register_is owners_are store_is x letters clocks machines) c tree)
    (about_first : AreAbout (st.made store_is).devices (st.made store_is).areas (SureOf g o st Stands Step register_is owners_are store_is x (known_of g o st Stands Step register_is owners_are store_is x letters clocks machines) c)
    (st.will_read store_is x c.store) (IsOfNode o.by_boot clocks) (scene_of g o st Stands Step register_is owners_are store_is x clocks.down machines c))
    (recovering_first : AreRecovering (st.made store_is).devices (st.made store_is).areas (SureOf g o st Stands Step register_is owners_are store_is x (known_of g o st Stands Step register_is owners_are store_is x letters clocks machines) c)
    (st.will_read store_is x c.store) c.register.chain (λ n. c.store.told.knew (Node n)) c.register.proposed (scene_of g o st Stands Step register_is owners_are store_is x clocks.down machines c))
    (given_first : (node session : ℕ) (machine : MachineView) → slice_get machines node ≡ Some machine → machine.session ≡ Some session → session < (last c.register.chain).next_session)
    (allowed : AreAllowed c.register.chain) (legal : AreLegal c.register.chain.first c.register.chain.changes) where
  -- what was done then
  abbrev pub then_is : Course
  then_is = record c { register = record r { chain = c.register.chain }; owners = op; store = sp }

  abbrev own : ℕ → Option ℕ
  own = own_up clocks.down (o.own owners_are)

  abbrev own_then : ℕ → Option ℕ
  own_then = own_up clocks_then.down (o.own owners_then)

  module _ (at_then : StandsAt g o st Stands Step register_then owners_then store_then y (known_of g o st Stands Step register_then owners_then store_then y then_letters clocks_then machines) then_is tree)
      (made : st.made store_then ≡ st.made store_is)
      (back : (gone by : ℕ) → Contains r.proposed (Close gone by) → Contains c.register.proposed (Close gone by))
      (keeps : KeepsHolds c.owners.holding op.holding)
      (rises : (block : ℕ) → c.owners.floor block ≤ op.floor block)
      (sent : (write : Sent) → Contains sp.writes write → Contains c.store.writes write)
      (later : c.store.told.greatest ≤ sp.told.greatest)
      (fewer : (node its : ℕ) (row : SessionRow) → row_in (last c.register.chain).sessions its ≡ Some row → row.dead ≡ 0 → IsOfNode o.by_boot clocks_then node row
      → IsOfNode o.by_boot clocks node row × (c.store.told.knew (Node node) ≤ sp.told.knew (Node node)))
      (standing : (d s : ℕ) (content : List ℕ) (index : ℕ) → IsOnly c.store.writes c.store.told.greatest d s content → st.stands store_is x c.store d s content index → st.stands store_then y sp d s content index)
      (reading : (node its s : ℕ) (content : List ℕ) (asks : Asked) → own_then node ≡ Some its → st.asked store_is node ≡ Some asks → st.asked store_then node ≡ Some asks → IsOnly c.store.writes c.store.told.greatest asks.device s content
      → st.will_read store_is x c.store node s content → st.will_read store_then y sp node s content)
      (kept : (node its : ℕ) (row : SessionRow) → row_in (last c.register.chain).sessions its ≡ Some row → row.dead ≡ 0 → IsOfNode o.by_boot clocks_then node row → own node ≡ Some its → own_then node ≡ Some its)
      (quiet : (node its : ℕ) → own_then node ≡ Some its → own node ≢ Some its → (st.out_of store_then node ≡ None) × (st.asked store_then node ≡ None))
      (out : (node its : ℕ) → own_then node ≡ Some its → (st.out_of store_then node ≡ None) ⊎ (st.out_of store_then node ≡ st.out_of store_is node))
      (asked : (node its : ℕ) → own_then node ≡ Some its → (st.asked store_then node ≡ None) ⊎ (st.asked store_then node ≡ st.asked store_is node))
      (done : (node : ℕ) (write : Sent) → own_then node ≡ Some write.session → st.out_of store_is node ≡ Some write → st.out_of store_then node ≡ None → LivesIn (last c.register.chain) write.session
      → (d s : ℕ) (content : List ℕ) → WritesTo write d s content → IsOnly sp.writes sp.told.greatest d s content → st.stands store_then y sp d s content (sp.told.knew (Node node)))
      (lives : (session end : ℕ) → Contains c.owners.leases (session, end) → c.owners.told.greatest ≤ end + 500 → LivesIn (last c.register.chain) session)
      (alone : (one other block : ℕ) (hold : Hold) → LivesIn (last c.register.chain) one → HasRow (last c.register.chain) other → c.owners.holding one block ≡ Some hold → oldest c.register.chain ≤ other) where
    abbrev devices : ℕ
    devices = (st.made store_is).devices

    abbrev areas : ℕ
    areas = (st.made store_is).areas

    allowed_last : IsAllowed (last c.register.chain)
    allowed_last = allowed.each (last c.register.chain) (last_place c.register.chain)

    abbrev Before : Scene
    Before = scene_of g o st Stands Step register_is owners_are store_is x clocks.down machines c

    abbrev Then : Scene
    Then = scene_of g o st Stands Step register_then owners_then store_then y clocks_then.down machines then_is

    abbrev Sure_before : ℕ → ℕ → List ℕ → Type 0
    Sure_before = SureOf g o st Stands Step register_is owners_are store_is x (known_of g o st Stands Step register_is owners_are store_is x letters clocks machines) c

    abbrev SureBy : Made → ℕ → ℕ → List ℕ → Type 0
    SureBy m = Surely (st.stands store_then y sp) (IsWithin m.devices m.areas c.register.chain op.holding op.floor (IsOfNode o.by_boot clocks_then) (λ node. sp.told.knew (Node node))) sp.writes sp.told.greatest

    abbrev Touches : ℕ → ℕ → ℕ → Type 0
    Touches its d s = MayTouch (st.made store_is).devices (st.made store_is).areas (last c.register.chain) c.owners.holding c.logs c.slots its d s

    sure_on : (d s : ℕ) (content : List ℕ) → Sure_before d s content → SureBy (st.made store_is) d s content
    sure_on d s content sure = record {
      index = sure.index;
      is = standing d s content sure.index sure.only sure.is;
      only = record { each = λ write other has to. ⊎_elim (λ same. inl same) (λ over. inr (omega (arith, later, over))) (sure.only.each write other (sent write has) to) };
      within = within_stays (st.made store_is).devices (st.made store_is).areas c.register.chain c.owners.holding op.holding c.owners.floor op.floor (IsOfNode o.by_boot clocks) (IsOfNode o.by_boot clocks_then) (λ n. c.store.told.knew (Node n)) (λ n. sp.told.knew (Node n))
          keeps rises fewer d s sure.index sure.within;
    }

    its_of : (node its : ℕ) (row : SessionRow) → own_then node ≡ Some its → row_in (last c.register.chain).sessions its ≡ Some row → row.dead ≡ 0 → IsOfNode o.by_boot clocks_then node row
    its_of node its row own is alive = own_of_node o.by_boot c.register.chain clocks_then (o.own owners_then) (λ n. sp.told.knew (Node n)) allowed at_then.sessions node its row own is alive

    -- what a write brought that is done stands so
    done_sure : (node its : ℕ) (row : SessionRow) (runs : List Run) → own_then node ≡ Some its → row_in (last c.register.chain).sessions its ≡ Some row → row.dead ≡ 0
        → ((d s : ℕ) (content : List ℕ) → WritesIn runs d s content → Touches its d s)
        → IsFlying its runs (st.out_of store_is node) c.store.writes → st.out_of store_then node ≡ None
        → (d s : ℕ) (content : List ℕ) → WritesIn runs d s content → SureBy (st.made store_is) d s content
    done_sure node its row runs own is alive touches flying none d s content w = record {
      index = sp.told.knew (Node node);
      is = done node flying.write (own ∙ ap (λ (n : ℕ). Some n) (sym flying.whose)) flying.is_out none (subst (λ (n : ℕ). LivesIn (last c.register.chain) n) (sym flying.whose) its_lives) d s content (subst (λ (l : List Run). WritesIn l d s content) (sym flying.runs_are) w) only_it;
      only = only_it;
      within = within_stays (st.made store_is).devices (st.made store_is).areas c.register.chain c.owners.holding op.holding c.owners.floor op.floor (IsOfNode o.by_boot clocks_then) (IsOfNode o.by_boot clocks_then) (λ n. sp.told.knew (Node n)) (λ n. sp.told.knew (Node n))
          keeps rises (λ n session one found lives_too of. (of, omega arith)) d s (sp.told.knew (Node node))
          (reaches (st.made store_is).devices (st.made store_is).areas at_first.logs.volume c.register.chain allowed legal c.owners.holding c.owners.floor (IsOfNode o.by_boot clocks_then) (λ n. sp.told.knew (Node n)) c.logs c.slots at_first.rights
          node its row is alive (λ other one found of. sym of.of ∙ one_is other one found) known_most d s (touches d s content w));
    }
      where
        its_lives : LivesIn (last c.register.chain) its
        its_lives = lives_of (last c.register.chain) its row is alive

        same_row : (a b : SessionRow) (found : Option SessionRow) → found ≡ Some a → found ≡ Some b → a ≡ b
        same_row a b found one two = cc

        one_is : (other : ℕ) (one : SessionRow) → row_in (last c.register.chain).sessions its ≡ Some one → one.node ≡ node
        one_is other one found = ap (λ (r : SessionRow). r.node) (same_row one row (row_in (last c.register.chain).sessions its) found is) ∙ (its_of node its row own is alive).of

        known_most : sp.told.knew (Node node) ≤ (last c.register.chain).index
        known_most = let t = at_then.sessions.told node its own in let low = index_most c.register.chain t.state t.place in let e = t.at in omega (arith, low, e)

        might : MayWrite c.store.writes c.store.told.greatest (last c.register.chain) flying.write
        might = may_write (st.made store_is).devices (st.made store_is).areas at_first.logs.volume (last c.register.chain) c.owners.holding (oldest c.register.chain) c.logs c.slots at_first.volume.rows at_first.volume.apart alone at_first.rights at_first.logs.once allowed_last
            c.owners.leases c.store.writes c.store.told.greatest flying.write at_first.writes (subst (λ (n : ℕ). LivesIn (last c.register.chain) n) (sym flying.whose) its_lives)
            (λ session end has less. lives session end has (let a = at_first.pasts.owners_greatest in omega (arith, a, less)))
            (λ d s content w. subst (λ (n : ℕ). Touches n d s) (sym flying.whose) (touches d s content (subst (λ (l : List Run). WritesIn l d s content) flying.runs_are w)))

        by_session : (other : Sent) (brings : List ℕ) → Contains c.store.writes other → WritesTo other d s brings → (other.session ≡ flying.write.session) ⊎ (IsOver c.store.told.greatest other × (LivesIn (last c.register.chain) other.session → ⊥))
            → (brings ≡ content) ⊎ IsOver sp.told.greatest other
        by_session other brings has to (inl same) =
            let e : other ≡ flying.write = flying.only other has (same ∙ flying.whose) in
            inl (flying.once d s content brings w (subst (λ (l : List Run). WritesIn l d s brings) flying.runs_are (subst (λ (one : Sent). WritesTo one d s brings) e to)))
        by_session other brings has to (inr over) = inr (let a = over.0 in omega (arith, a, later))

        only_it : IsOnly sp.writes sp.told.greatest d s content
        only_it = record { each = λ other brings has to. by_session other brings (sent other has) to (might.each other d s content brings (sent other has) to (subst (λ (l : List Run). WritesIn l d s content) (sym flying.runs_are) w)) }

    leaves : (node its : ℕ) (row : SessionRow) → own node ≡ Some its → own_then node ≡ Some its → row_in (last c.register.chain).sessions its ≡ Some row → row.dead ≡ 0
        → Leaves (st.made store_is).devices (st.made store_is).areas (Touches its) Sure_before (SureBy (st.made store_is)) (st.will_read store_is x c.store node) (st.will_read store_then y sp node) Before Then node its row.slot
    leaves node its row had own is alive = record {
      of_slot = record { logs = refl; slots = refl; doubts = refl };
      none_out = λ none. ⊎_elim (λ gone. gone) (λ same. same ∙ none) (out node its own);
      none_asked = λ none. ⊎_elim (λ gone. gone) (λ same. same ∙ none) (asked node its own);
      writing = λ runs touches writing. by_writing runs touches writing (out node its own);
      reads = λ block mode was. record {
        is = was.is;
        allows = allows_on c.owners.holding op.holding its block mode keeps was.allows;
        unlogged = was.unlogged;
        unwritten = was.unwritten;
        asked = ⊎_elim
            (λ none. inl (⊎_elim (λ gone. gone) (λ same. same ∙ none) (asked node its own)))
            (λ some. ⊎_elim
            (λ gone. inl gone)
            (λ same. inr (same ∙ some.0, λ i few. reading node its ((block_place block devices).1 + i) (c.before (block_place block devices).0 ((block_place block devices).1 + i)) (home_of devices block) own some.0 (same ∙ some.0) (at_first.logs.homes block was.is was.unlogged i few).only (some.1 i few)))
            (asked node its own))
            was.asked;
      };
    }
      where
        by_writing : (runs : List Run) → ((d s : ℕ) (content : List ℕ) → WritesIn runs d s content → Touches its d s) → IsWriting Sure_before its runs (st.out_of store_is node) c.store.writes
            → (st.out_of store_then node ≡ None) ⊎ (st.out_of store_then node ≡ st.out_of store_is node) → IsWriting (SureBy (st.made store_is)) its runs (st.out_of store_then node) sp.writes
        by_writing runs touches (inl flying) (inl none) = inr (record { none_out = none; sure = λ d s content w. done_sure node its row runs own is alive touches flying none d s content w })
        by_writing runs touches (inl flying) (inr same) = inl (record { write = flying.write; whose = flying.whose; runs_are = flying.runs_are; once = flying.once; is_out = same ∙ flying.is_out; only = λ other has its_own. flying.only other (sent other has) its_own })
        by_writing runs touches (inr landed) gone = inr (record { none_out = ⊎_elim (λ none. none) (λ same. same ∙ landed.none_out) gone; sure = λ d s content w. sure_on d s content (landed.sure d s content w) })

    about_then : AreAbout (st.made store_is).devices (st.made store_is).areas (SureBy (st.made store_is)) (st.will_read store_then y sp) (IsOfNode o.by_boot clocks_then) Then
    about_then = hears (st.made store_is).devices (st.made store_is).areas Touches Sure_before (SureBy (st.made store_is)) (st.will_read store_is x c.store) (st.will_read store_then y sp) (IsOfNode o.by_boot clocks) (IsOfNode o.by_boot clocks_then) Before Then
        about_first refl (λ node. refl) (λ node its row is alive of. (fewer node its row is alive of).0) (λ node other row of of_too. sym of_too.of ∙ of.of)
        (λ node its row is alive own. own_of_node o.by_boot c.register.chain clocks (o.own owners_are) (λ n. c.store.told.knew (Node n)) allowed at_first.sessions node its row own is alive)
        (λ node its row is alive own. its_of node its row own is alive)
        kept
        quiet
        (λ its row is alive. record { logs = refl; slots = refl; doubts = refl })
        leaves
        (λ node its machine row is alive about. owning.may_work (st.made store_is).devices (st.made store_is).areas Sure_before c.before (last c.register.chain) allowed_last c.owners.holding c.logs c.slots c.truth at_first.logs its row is alive
        (st.will_read store_is x c.store node) Before node machine refl refl about)

    -- All are about what they were about.
    pub about_passes : AreAbout (st.made store_then).devices (st.made store_then).areas (SureOf g o st Stands Step register_then owners_then store_then y (known_of g o st Stands Step register_then owners_then store_then y then_letters clocks_then machines) then_is)
        (st.will_read store_then y sp) (IsOfNode o.by_boot clocks_then) Then
    about_passes = subst (λ (m : Made). AreAbout m.devices m.areas (SureBy m) (st.will_read store_then y sp) (IsOfNode o.by_boot clocks_then) Then) (sym made) about_then

    -- ---- what they recover

    -- whoever is active then was
    was_active : (node its : ℕ) (machine : MachineView) (row : SessionRow) → IsActive Then node its machine row → IsActive Before node its machine row
    was_active node its machine row active = record {
      there = active.there;
      marked = active.marked;
      own = about_first.marked node its machine row (fewer node its row active.is_row active.lives (its_of node its row active.own active.is_row active.lives)).0 active.there active.marked active.is_row active.lives;
      is_row = active.is_row;
      lives = active.lives;
    }

    spares : (node its : ℕ) (machine : MachineView) (row : SessionRow) (gone slot : ℕ) → IsActive Then node its machine row → slot < 8 → IsEntitled (last c.register.chain) gone slot its
        → SparesSlot (st.made store_is).devices (st.made store_is).areas Sure_before (SureBy (st.made store_is)) (st.will_read store_is x c.store node) (st.will_read store_then y sp node) (around_in Before node) (around_in Then node) its slot
    spares node its machine row gone slot active low claimed = record {
      logs = refl;
      slots = refl;
      before = λ d s inside. refl;
      asked = ⊎_elim (λ none. inr none) (λ same. inl same) (asked node its active.own);
      out = ⊎_elim
          (λ none. inr (
            none,
            λ runs near flying d s content w. done_sure node its row runs active.own active.is_row active.lives
                (λ device sector bytes brings. near_touches (st.made store_is).devices (st.made store_is).areas (last c.register.chain) c.owners.holding c.logs c.slots gone slot its device sector low claimed (near device sector bytes brings))
                flying none d s content w,
          ))
          (λ same. inl same)
          (out node its active.own);
      sent = λ write there whose. sent write there;
      sure = λ d s content near is. sure_on d s content is;
      reads = λ asks s content was is near sure read. reading node its s content asks active.own was is sure.only read;
    }

    recovering_then : AreRecovering (st.made store_is).devices (st.made store_is).areas (SureBy (st.made store_is)) (st.will_read store_then y sp) c.register.chain (λ n. sp.told.knew (Node n)) r.proposed Then
    recovering_then = recover_then g o st Stands Step register_is owners_are store_is x (known_of g o st Stands Step register_is owners_are store_is x letters clocks machines) c tree machines at_first allowed_last
        (SureBy (st.made store_is)) (st.will_read store_then y sp) c.register.chain (λ n. sp.told.knew (Node n)) r.proposed Then recovering_first
        (λ node its machine row active. inl (same_active Before node its machine row (was_active node its machine row active)))
        (omega arith) (λ gone low has. has)
        (λ node its machine one row row_one gone slot stage active active_was of low claimed other. inl (spares node its machine row gone slot active low claimed))
        (claims_stay g o st Stands Step register_is owners_are store_is x (known_of g o st Stands Step register_is owners_are store_is x letters clocks machines) c tree machines at_first allowed_last
        (IsActive Then) (λ n. sp.told.knew (Node n)) (λ node its machine row active. (fewer node its row active.is_row active.lives (its_of node its row active.own active.is_row active.lives)).1))
        (λ node its machine row gone stage active of under_way there. back gone its there)

    -- All recover what they recovered.
    pub recovering_passes : AreRecovering (st.made store_then).devices (st.made store_then).areas (SureOf g o st Stands Step register_then owners_then store_then y (known_of g o st Stands Step register_then owners_then store_then y then_letters clocks_then machines) then_is)
        (st.will_read store_then y sp) c.register.chain (λ n. sp.told.knew (Node n)) r.proposed Then
    recovering_passes = subst (λ (m : Made). AreRecovering m.devices m.areas (SureBy m) (st.will_read store_then y sp) c.register.chain (λ n. sp.told.knew (Node n)) r.proposed Then) (sym made) recovering_then

    -- The nodes stand then.
    pub passes : ((node its : ℕ) → own_then node ≡ Some its → (g.knows register_then (Node node)).index ≤ sp.told.knew (Node node)) → NodesStand g o st Stands Step register_then owners_then store_then y then_letters clocks_then machines then_is tree
    passes told = record {
      at = at_then;
      about = about_passes;
      recovering = recovering_passes;
      single = one_owner o.by_boot c.register.chain clocks_then (o.own owners_then) (λ n. sp.told.knew (Node n)) allowed at_then.sessions;
      told = told;
      given = given_first;
    }
