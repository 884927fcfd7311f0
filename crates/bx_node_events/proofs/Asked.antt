-- A node whose log rests asks for the home of a block that it holds, and doesn't show: the nodes stand.
use Rattle.std.proofs.Common.{◌≡◌, ◌≢◌, ◌⊎◌, inl, inr, ◌∙◌, ℕ, ◌+◌, ◌<◌, ◌≤◌, max, Bool, true, false, eqb, List, Option, Some, None, refl, sym, ap, subst, arith}
use Rattle.std.proofs.lemmas.Bool.Decides.{nat_tests}
use Rattle.std.specs.Prelude.{slice_get}
use Rattle.bx_base.specs.declared.names.Actor.TheVariants.{Node}
use Rattle.bx_base.specs.declared.names.Mode.{Mode}
use Rattle.bx_disk.specs.Disks.{Disks}
use Rattle.bx_facts.specs.declared.register.Register as register
use Rattle.bx_facts.specs.declared.store.Store as store
use Rattle.bx_facts.specs.Chains.{HasRow, LivesIn, last, oldest, opened_at}
use Rattle.bx_facts.specs.Holds.{Hold}
use Rattle.bx_facts.specs.Writes.{GoesOn, IsOnly, Made}
use Rattle.bx_node_machines.specs.Machines as words
use Rattle.bx_node_machines.specs.Machines.{AreAbout, Fetch, IsAbout, IsAtWork, IsFetched, MachineView, Scene, Stage, home_of}
use Rattle.bx_node_machines.proofs.Leaving.{given_on}
use Rattle.bx_node_machines.specs.Nodes.{NodesStand, hinted, known_of, scene_of, shown}
use Rattle.bx_node_machines.proofs.Showing.{sees_truth, shown_at}
use Rattle.bx_node_views.proofs.Knowing.{read_knows}
use Rattle.bx_node_events.proofs.Keeping.{keeping, shows_own}
use Rattle.bx_node_events.proofs.Opened.{opened_most}
use Rattle.bx_node_events.proofs.Unlogged as unlogging
use Rattle.bx_facts.specs.declared.owners.Owners as owners
use Rattle.bx_node_events.proofs.Sparing.{claims_stay, only_ended, recover_then}
use Rattle.bx_node_machines.specs.Recoveries.{AreRecovering, IsActive, RecoversNone, around_in}
use Rattle.bx_node_machines.specs.Recovering.{HasEnded}
use Rattle.bx_node_machines.specs.bx_recover.specs.Recovering.{RecoveryView}
use Rattle.bx_node_machines.specs.bx_recover.specs.declared.stage.Stage as recover
use Rattle.bx_node_machines.proofs.Going.{SparesClosed, SparesSlot}
use Rattle.bx_node_machines.proofs.Ongoing.{one_changes}
use Rattle.bx_places.specs.Places.{IsBlock, block_place}
use Rattle.bx_post.specs.declared.packets.Letter.{Letter}
use Rattle.bx_rows.specs.Words.{row_in}
use Rattle.bx_rows.specs.declared.session.SessionRow.{SessionRow}
use Rattle.bx_views.specs.Attempts.{Deed}
use Rattle.bx_views.specs.Truths.{Held, Hints, Truth}
use Rattle.bx_volume.specs.Overlay.{IsUnlogged}
use Rattle.bx_world_chains.specs.Entitled.{AreAllowed}
use Rattle.bx_world_chains.proofs.Chains.{last_place}
use Rattle.bx_world_chains.proofs.Rows.{has_of, lives_of}
use Rattle.bx_world_chains.proofs.Sessions.{own_row}
use Rattle.bx_world_logs.specs.Logs.{IsInLog}
use Rattle.bx_world_standing.specs.Labels.{LabelsStand}
use Rattle.bx_world_standing.specs.Parts.{Clocks}
use Rattle.bx_world_standing.specs.Rights.{IsWithin, Surely}
use Rattle.bx_world_standing.specs.Sessions.{IsOfNode}
use Rattle.bx_world_standing.specs.Standing.{Course, Known, StandsAt, SureOf, own_up}
use Rattle.bx_world_standing.proofs.Owns.{own_is}
use Rattle.bx_world_standing.proofs.Told.{own_of_node}
use Rattle.bx_world_stays.proofs.Stays.{stays}
use Rattle.bx_world_views.specs.Views.{Allows, ViewStands}

-- the course with other letters
abbrev pub with_letters : Course → List Letter → Course
with_letters c letters = record c {
  register = record c.register { letters = letters };
  owners = record c.owners { told = record c.owners.told { letters = letters } };
  store = record c.store { told = record c.store.told { letters = letters } };
}

module _ {G O S T : Type 0} (g : register.Ghosts G) (o : owners.Ghosts O) (st : store.Ghosts S) (Stands : Truth → Hints → T → Type 0) (Step : T → Deed → T → Type 0)
    (register_is : G) (owners_are : O) (old new : S) (x : Disks) (letters then_letters : List Letter) (clocks : Clocks) (machines later : List MachineView) (c : Course) (tree : T)
    (node session at : ℕ) (row : SessionRow) (before : MachineView) (hold : Hold)
    (stands : NodesStand g o st Stands Step register_is owners_are old x letters clocks machines c tree)
    (up : clocks.down (Node node) ≡ false) (own : o.own owners_are node ≡ Some session) (allowed : AreAllowed c.register.chain)
    (is_row : row_in (last c.register.chain).sessions session ≡ Some row) (lives : row.dead ≡ 0)
    (there : slice_get machines node ≡ Some before) (mark : before.session ≡ Some session) (rests : before.stage ≡ words.Idle)
    (then_there : slice_get later node ≡ Some (record before { fetch = words.Block at hold.0 })) (others : (other : ℕ) → other ≢ node → slice_get later other ≡ slice_get machines other)
    (register_keeps : g.keeps register_is x (with_letters c then_letters).register) (owners_keep : o.keeps owners_are (with_letters c then_letters).owners)
    (keeps : st.keeps new x (with_letters c then_letters).store) (made : st.made new ≡ st.made old)
    (same : (other : ℕ) → (st.own new other ≡ st.own old other) × (st.out_of new other ≡ st.out_of old other))
    (elsewhere : (reader : ℕ) → reader ≢ node → st.asked new reader ≡ st.asked old reader)
    (goes : GoesOn c.store.writes c.store.told.greatest (st.asked old) (st.settled old x c.store) (st.settled new x (with_letters c then_letters).store) (st.will_read old x c.store) (st.will_read new x (with_letters c then_letters).store)
    (st.stands old x c.store) (st.stands new x (with_letters c then_letters).store))
    (asks : st.asked new node ≡ Some (home_of (st.made old).devices at))
    (promise : (sector : ℕ) (content : List ℕ) (index : ℕ) → (block_place at (st.made old).devices).1 ≤ sector → sector < (block_place at (st.made old).devices).1 + 9
    → IsOnly c.store.writes c.store.told.greatest (block_place at (st.made old).devices).0 sector content → st.stands old x c.store (block_place at (st.made old).devices).0 sector content index
    → index ≤ c.store.told.knew (Node node) → st.will_read new x (with_letters c then_letters).store node sector content) where
  abbrev known : Known
  known = known_of g o st Stands Step register_is owners_are old x letters clocks machines

  abbrev Before : Scene
  Before = scene_of g o st Stands Step register_is owners_are old x clocks.down machines c

  abbrev Then : Scene
  Then = scene_of g o st Stands Step register_is owners_are new x clocks.down later (with_letters c then_letters)

  abbrev Sure_before : ℕ → ℕ → List ℕ → Type 0
  Sure_before = SureOf g o st Stands Step register_is owners_are old x known c

  abbrev SureBy : Made → ℕ → ℕ → List ℕ → Type 0
  SureBy m = Surely (st.stands new x (with_letters c then_letters).store)
      (IsWithin m.devices m.areas c.register.chain c.owners.holding c.owners.floor (IsOfNode o.by_boot clocks) (λ n. c.store.told.knew (Node n))) c.store.writes c.store.told.greatest

  abbrev machine : MachineView
  machine = record before { fetch = words.Block at hold.0 }

  mine : own_up clocks.down (o.own owners_are) node ≡ Some session
  mine = own_is clocks.down (o.own owners_are) node session up own

  live : LivesIn (last c.register.chain) session
  live = lives_of (last c.register.chain) session row is_row lives

  its : IsAbout (st.made old).devices (st.made old).areas Sure_before (st.will_read old x c.store node) Before node session row.slot before
  its = stands.about.each node session before row there mark mine is_row lives

  at_rest : IsAtWork (st.made old).devices (st.made old).areas Sure_before Before node session row.slot before words.Idle
  at_rest = subst (λ (stage : Stage). IsAtWork (st.made old).devices (st.made old).areas Sure_before Before node session row.slot before stage) rests its.work

  stood : StandsAt g o st Stands Step register_is owners_are new x (record known { letters = then_letters }) (with_letters c then_letters) tree
  stood = stays g o st Stands Step register_is register_is owners_are owners_are old new x x known (record known { letters = then_letters }) c
      (with_letters c then_letters).register (with_letters c then_letters).owners (with_letters c then_letters).store tree stands.at
      (record {
        owners_chain = stands.at.pasts.owners_chain;
        store_chain = stands.at.pasts.store_chain;
        letters = refl;
        owners_letters = refl;
        store_letters = refl;
        down = stands.at.pasts.down;
        owners_down = stands.at.pasts.owners_down;
        store_down = stands.at.pasts.store_down;
        boots = stands.at.pasts.boots;
        owners_most = stands.at.pasts.owners_most;
        store_most = stands.at.pasts.store_most;
        owners_boots = stands.at.pasts.owners_boots;
        store_boots = stands.at.pasts.store_boots;
        own_boots = stands.at.pasts.own_boots;
        next_boots = stands.at.pasts.next_boots;
        proposed = stands.at.pasts.proposed;
        owners_greatest = stands.at.pasts.owners_greatest;
        greatest = stands.at.pasts.greatest;
      })
      (record {
        register_keeps = register_keeps;
        owners_keep = owners_keep;
        store_keeps = keeps;
        owners_knew = stands.at.parts.owners_knew;
        store_knew = stands.at.parts.store_knew;
        same_boots = stands.at.parts.same_boots;
        own = λ n is_up. stands.at.parts.own n is_up ∙ sym (same n).0;
      })
      (subst (λ (m : Made). LabelsStand m x) (sym made) stands.at.labels) made
      (record { each = λ s block its_hold is. is }) (λ place. omega arith) (λ s end has. has) refl (omega arith)
      (λ d s content index only is. goes.standing d s content index only is)
      (λ n s its_row has its_lives is. (is, omega arith)) stands.at.sessions (λ n s is its_lives. inl is) (λ n other s is is_other its_lives. stands.single n other s is is_other) stands.at.volume.apart
      stands.at.closings (λ n s place mode block is its_lives has. has) (λ n. inl refl)

  sure_on : (d s : ℕ) (content : List ℕ) → SureOf g o st Stands Step register_is owners_are old x known c d s content → SureBy (st.made old) d s content
  sure_on d s content sure = record { index = sure.index; is = goes.standing d s content sure.index sure.only sure.is; only = sure.only; within = sure.within }

  reads_on : (reader block : ℕ) → IsBlock (st.made old).areas block → IsUnlogged c.logs block → (i : ℕ) → i < 9 → st.asked new reader ≡ st.asked old reader → st.asked old reader ≡ Some (home_of (st.made old).devices block)
      → st.will_read old x c.store reader ((block_place block (st.made old).devices).1 + i) (c.before (block_place block (st.made old).devices).0 ((block_place block (st.made old).devices).1 + i))
      → st.will_read new x (with_letters c then_letters).store reader ((block_place block (st.made old).devices).1 + i) (c.before (block_place block (st.made old).devices).0 ((block_place block (st.made old).devices).1 + i))
  reads_on reader block is unlogged i few still asked was =
      let sure = stands.at.logs.homes block is unlogged i few in
      goes.reading reader ((block_place block (st.made old).devices).1 + i) (c.before (block_place block (st.made old).devices).0 ((block_place block (st.made old).devices).1 + i)) (home_of (st.made old).devices block) asked sure.only was

  -- The node holds the block at an index that it knows.
  module _ (is : IsBlock (st.made old).areas at) (holds : c.owners.holding session at ≡ Some hold) (knows : hold.1 ≤ c.store.told.knew (Node node)) (unseen : (way : Mode) → before.held at way ≡ None)
      (reaches : c.owners.floor at ≤ max hold.1 (opened_at c.register.chain session)) (alone : (other : ℕ) → HasRow (last c.register.chain) other → oldest c.register.chain ≤ other) where
    not_own : IsInLog c.logs c.slots row.slot at → ⊥
    not_own inside = unlogging.none_in c.logs c.slots row.slot at at_rest.2 at_rest.1 inside

    unlogged : IsUnlogged c.logs at
    unlogged = unlogging.is_unlogged Sure_before (st.made old).devices (st.made old).areas (last c.register.chain) (allowed.each (last c.register.chain) (last_place c.register.chain)) c.before c.logs c.slots c.truth stands.at.logs c.owners.holding (oldest c.register.chain) stands.at.rights stands.at.volume.apart
        session at row hold is_row holds alone not_own

    opened : opened_at c.register.chain session ≤ c.store.told.knew (Node node)
    opened =
        let told = stands.at.sessions.told node session mine in
        let its_row = own_row o.by_boot told.state node (clocks.boots (Node node)) session (allowed.each told.state told.place) told.by in
        let low = opened_most c.register.chain told.state session told.place (has_of told.state session its_row.row its_row.is) in
        let same_index = told.at in
        omega (arith, low, same_index)

    brings : (i : ℕ) → i < 9 → st.will_read new x (with_letters c then_letters).store node ((block_place at (st.made old).devices).1 + i) (c.before (block_place at (st.made old).devices).0 ((block_place at (st.made old).devices).1 + i))
    brings i few =
        let sure = stands.at.logs.homes at is unlogged i few in
        let low = read_knows (st.made old).devices (st.made old).areas c.register.chain (IsOfNode o.by_boot clocks) (λ n. c.store.told.knew (Node n)) node session row is_row lives
        (own_of_node o.by_boot c.register.chain clocks (o.own owners_are) (λ n. c.store.told.knew (Node n)) allowed stands.at.sessions node session row mine is_row lives)
        c.owners.holding c.owners.floor at sure.index hold holds knows opened reaches
        (λ other other_hold has ne is_held. (stands.at.volume.apart.each session other at hold other_hold (has_of (last c.register.chain) session row is_row) has ne holds is_held).1)
        alone (sure.within.home at is (record { device = refl; i = i; few = few; is = refl })) in
        promise ((block_place at (st.made old).devices).1 + i) (c.before (block_place at (st.made old).devices).0 ((block_place at (st.made old).devices).1 + i)) sure.index (omega arith) (omega (arith, few)) sure.only sure.is low

    fetched : IsFetched (st.made old).devices (st.made old).areas (st.will_read new x (with_letters c then_letters).store node) Then node session at hold.0
    fetched = record {
      is = is;
      allows = subst (λ (found : Option Hold). Allows found hold.0) (sym holds) (inl refl);
      unlogged = unlogged;
      unwritten = unlogging.is_unwritten Sure_before (st.made old).devices (st.made old).areas (last c.register.chain) (allowed.each (last c.register.chain) (last_place c.register.chain)) c.before c.logs c.slots c.truth stands.at.logs c.owners.holding (oldest c.register.chain) stands.at.rights stands.at.volume.apart
          session at row hold is_row holds alone not_own;
      asked = inr (asks, brings);
    }

    one_session : (a b : ℕ) → Some a ≡ Some b → a ≡ b
    one_session a b e = cc

    one_is : (a b : MachineView) → Some a ≡ Some b → a ≡ b
    one_is a b e = cc

    -- what others recover is spared; the node itself recovers nothing
    spares : (other its_session : ℕ) (one : MachineView) (its_row : SessionRow) (gone slot : ℕ) (its_stage : recover.Stage) → (b : Bool) → eqb other node ≡ b → IsActive Then other its_session one its_row
        → HasEnded its_stage ⊎ ((recovery : RecoveryView) × (one.stage ≡ words.Recovers gone recovery))
        → SparesSlot (st.made old).devices (st.made old).areas Sure_before (SureBy (st.made old)) (st.will_read old x c.store other) (st.will_read new x (with_letters c then_letters).store other) (around_in Before other) (around_in Then other) its_session slot
        ⊎ (HasEnded its_stage × SparesClosed (st.made old).devices (around_in Before other) (around_in Then other) its_session slot)
    spares other its_session one its_row gone slot its_stage true is_node active of =
        let e : other ≡ node = grind (arith, nat_tests, is_node) in
        let f : machine ≡ one = one_is machine one (sym then_there ∙ ap (λ (n : ℕ). slice_get later n) (sym e) ∙ active.there) in
        inr (
          only_ended one.stage gone its_stage (subst (λ (m : MachineView). RecoversNone m.stage) f (subst (λ (stage : Stage). RecoversNone stage) (sym rests) tt)) of,
          record { logs = refl; slots = refl; sent = λ write has whose. inl has },
        )
    spares other its_session one its_row gone slot its_stage false differ active of = inl (record {
      logs = refl;
      slots = refl;
      before = λ d s inside. refl;
      asked = inl (elsewhere other (λ e. grind (arith, nat_tests, differ, e)));
      out = inl (same other).1;
      sent = λ write has whose. has;
      sure = λ d s content near is_sure. sure_on d s content is_sure;
      reads = λ asks_it s content was is_it near sure read. goes.reading other s content asks_it was sure.only read;
    })

    pub asked : NodesStand g o st Stands Step register_is owners_are new x then_letters clocks later (with_letters c then_letters) tree
    asked = record {
      at = shown_at g o st Stands Step register_is owners_are new x (record known { letters = then_letters }) (with_letters c then_letters) tree node (λ n. shown (slice_get later n) (o.own owners_are n)) (λ n. hinted (slice_get later n)) stood
          (λ other ne. (ap (λ (m : Option MachineView). shown m (o.own owners_are other)) (others other ne), ap hinted (others other ne)))
          (λ s is_s its_lives. subst (λ (h : Held). ViewStands c.owners.holding c.truth s h) (sym (shows_own (slice_get later node) (o.own owners_are node) machine session then_there own mark))
          (subst (λ (n : ℕ). ViewStands c.owners.holding c.truth n before.held) (one_session session s (sym mine ∙ is_s)) sees.0))
          (subst (λ (m : Option MachineView). Stands c.truth (hinted m) tree) (sym then_there) sees.1);
      about = subst (λ (m : Made). AreAbout m.devices m.areas (SureBy m) (st.will_read new x (with_letters c then_letters).store) (IsOfNode o.by_boot clocks) Then) (sym made)
          (keeping (st.made old).devices (st.made old).areas Sure_before (SureBy (st.made old)) (st.will_read old x c.store) (st.will_read new x (with_letters c then_letters).store) (IsOfNode o.by_boot clocks) Before
          (slice_get later) (own_up clocks.down (o.own owners_are)) (st.out_of new) (st.asked new) c.owners.holding node session before before.held before.away before.hints (words.Block at hold.0)
          stands.about (λ other. refl) mine (λ other its_own. stands.single node other session mine its_own) there mark then_there others
          (λ other. (same other).1) elsewhere sure_on (λ other block mode ne allows. allows) reads_on (λ place. refl) fetched unseen);
      recovering = subst (λ (m : Made). AreRecovering m.devices m.areas (SureBy m) (st.will_read new x (with_letters c then_letters).store) c.register.chain (λ n. c.store.told.knew (Node n)) c.register.proposed Then) (sym made)
          (recover_then g o st Stands Step register_is owners_are old x known c tree machines stands.at (allowed.each (last c.register.chain) (last_place c.register.chain)) (SureBy (st.made old)) (st.will_read new x (with_letters c then_letters).store)
          c.register.chain (λ n. c.store.told.knew (Node n)) c.register.proposed Then stands.recovering
          (one_changes Before Then node before machine there then_there others (λ other. refl) refl refl refl (λ gone recovery is_it. is_it) (λ was. subst (λ (stage : Stage). RecoversNone stage) (sym rests) tt)) (omega arith) (λ gone low has. has)
          (λ other its_session one was row_then row_was gone slot its_stage active active_was of low claimed apart. spares other its_session one row_then gone slot its_stage (eqb other node) refl active of)
          (claims_stay g o st Stands Step register_is owners_are old x known c tree machines stands.at (allowed.each (last c.register.chain) (last_place c.register.chain)) (IsActive Then) (λ n. c.store.told.knew (Node n)) (λ other its_session one row_then active. omega arith))
          (λ other its_session one row_then gone its_stage active of under_way has. has));
      single = stands.single;
      told = stands.told;
      given = given_on machines later (last c.register.chain).next_session node before machine stands.given there then_there refl others;
    }
      where
        sees : ViewStands c.owners.holding c.truth session before.held × Stands c.truth before.hints tree
        sees = sees_truth g o st Stands Step register_is owners_are old x letters clocks machines c tree node session before stands up own live there mark
