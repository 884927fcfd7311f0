-- A machine that is up was handed an input, once what was decided is in the chain: the nodes stand.
use Rattle.std.proofs.Common.{◌≡◌, ◌≢◌, ◌⊎◌, ⊎_elim, inl, inr, ◌∙◌, ℕ, ◌+◌, ◌<◌, ◌≤◌, Bool, true, false, List, Contains, Option, Some, None, refl, sym, ap, subst, arith}
use Rattle.std.specs.Prelude.{if◌then◌else◌, slice_get}
use Rattle.std.proofs.lemmas.Bool.Decides.{nat_tests}
use Rattle.bx_base.specs.declared.names.Actor.{Actor}
use Rattle.bx_base.specs.declared.names.Actor.TheVariants.{Member, Node, Replica, Server}
use Rattle.bx_base.specs.declared.names.Mode.{Mode}
use Rattle.bx_disk.specs.Disks.{Disks}
use Rattle.bx_facts.specs.declared.input.Input.{Input}
use Rattle.bx_facts.specs.declared.input.Input.TheVariants.{Packet, Synced, Tick}
use Rattle.bx_facts.specs.declared.register.Register as register
use Rattle.bx_facts.specs.declared.store.Store as store
use Rattle.bx_facts.specs.Chains.{AreLegal, HasRow, IsPlace, LivesIn, last, oldest, session_by, with_change}
use Rattle.bx_facts.specs.Holds.{Hold, Holds, KeepsHolds, OwnersPast}
use Rattle.bx_facts.specs.Inputs.{greatest_with}
use Rattle.bx_facts.specs.Machines.{is_same, put_at}
use Rattle.bx_facts.specs.Writes.{Asked, IsOnly, Sent, WritesTo}
use Rattle.bx_facts.proofs.Lists.{front_or_behind}
use Rattle.bx_facts.proofs.Machines.{is_itself, is_one}
use Rattle.bx_global.specs.declared.change.Change.{Change}
use Rattle.bx_global.specs.declared.change.Change.TheVariants.{Close}
use Rattle.bx_global.specs.declared.state.GlobalState.{GlobalState}
use Rattle.bx_node_events.proofs.Passing as passing
use Rattle.bx_node_machines.specs.Machines.{AreAbout, MachineView, is_one as marks}
use Rattle.bx_node_machines.specs.Recoveries.{AreRecovering}
use Rattle.bx_node_machines.specs.Nodes.{IsOfNode, NodesStand, hinted, known_of, nothing_held, scene_of, shown}
use Rattle.bx_node_machines.proofs.Hearing.{own_or_not}
use Rattle.bx_facts.specs.declared.owners.Owners as owners
use Rattle.bx_post.specs.declared.packets.Letter.{Letter}
use Rattle.bx_rows.specs.Words.{row_in}
use Rattle.bx_rows.specs.declared.session.SessionRow.{SessionRow}
use Rattle.bx_views.specs.Attempts.{Deed}
use Rattle.bx_views.specs.Truths.{Hints, Truth}
use Rattle.bx_world_chains.specs.Entitled.{AreAllowed}
use Rattle.bx_world_chains.proofs.Chains.{index_most, last_place}
use Rattle.bx_world_chains.proofs.Rows.{lives_of, lives_row}
use Rattle.bx_world_chains.proofs.Sessions.{own_kept, own_row}
use Rattle.bx_world_standing.specs.Labels.{LabelsStand}
use Rattle.bx_world_standing.specs.Parts.{Clocks}
use Rattle.bx_world_standing.specs.Standing.{Course, Known, StandsAt, SureOf, own_up}
use Rattle.bx_world_standing.proofs.Owns.{own_is, own_of}
use Rattle.bx_world_stays.proofs.Heard.{IsNoNode, IsProposal, heard_at, heard_by, heard_clocks, heard_course, told_then}
use Rattle.bx_world_views.specs.Views.{AreApart}

-- a machine is a node, or none
pub node_or_not : (who : Actor) → ((node : ℕ) × (who ≡ Node node)) ⊎ IsNoNode who
node_or_not (Node n) = inl (n, refl)
node_or_not (Replica n) = inr tt
node_or_not (Server n) = inr tt
node_or_not (Member n) = inr tt

same_or_not : (who other : Actor) → (who ≡ other) ⊎ (who ≢ other)
same_or_not who other = by (is_same who other) refl
  where
    by : (t : Bool) → is_same who other ≡ t → (who ≡ other) ⊎ (who ≢ other)
    by true same = inl (is_one who other same)
    by false differ = inr (λ e. let f : is_same who other ≡ true = ap (is_same who) (sym e) ∙ is_itself who in absurd cc)

not_it : (who : Actor) → IsNoNode who → (node : ℕ) → who ≢ Node node
not_it (Node n) none node e = none
not_it (Replica n) none node e = cc
not_it (Server n) none node e = cc
not_it (Member n) none node e = cc

pub rises_then : (a : ℕ) (input : Input) → a ≤ greatest_with a input
rises_then a (Packet packet reading) = omega arith
rises_then a (Tick reading) = omega arith
rises_then a Synced = omega arith

module _ {G O S T : Type 0} (g : register.Ghosts G) (o : owners.Ghosts O) (st : store.Ghosts S) (Stands : Truth → Hints → T → Type 0) (Step : T → Deed → T → Type 0)
    (register_is register_then : G) (owners_are owners_then : O) (store_is store_then : S) (x y : Disks) (letters then_letters : List Letter) (clocks : Clocks) (machines : List MachineView) (c : Course) (tree : T)
    (who : Actor) (s : GlobalState) (input : Input) (owners_change store_change proposal : Option Change) (holding : Holds)
    (at_first : StandsAt g o st Stands Step register_is owners_are store_is x (known_of g o st Stands Step register_is owners_are store_is x letters clocks machines) c tree)
    (about_first : AreAbout (st.made store_is).devices (st.made store_is).areas (SureOf g o st Stands Step register_is owners_are store_is x (known_of g o st Stands Step register_is owners_are store_is x letters clocks machines) c)
    (st.will_read store_is x c.store) (IsOfNode o.by_boot clocks) (scene_of g o st Stands Step register_is owners_are store_is x clocks.down machines c))
    (recovering_first : AreRecovering (st.made store_is).devices (st.made store_is).areas (SureOf g o st Stands Step register_is owners_are store_is x (known_of g o st Stands Step register_is owners_are store_is x letters clocks machines) c)
    (st.will_read store_is x c.store) c.register.chain (λ n. c.store.told.knew (Node n)) c.register.proposed (scene_of g o st Stands Step register_is owners_are store_is x clocks.down machines c))
    (given_first : (node session : ℕ) (machine : MachineView) → slice_get machines node ≡ Some machine → machine.session ≡ Some session → session < (last c.register.chain).next_session)
    (allowed : AreAllowed c.register.chain) (legal : AreLegal c.register.chain.first c.register.chain.changes)
    (up : clocks.down who ≡ false) (place : IsPlace c.register.chain s) (order : c.store.told.knew who ≤ s.index) where
  abbrev pub then_is : Course
  then_is = heard_course c who s.index input owners_change store_change proposal then_letters holding

  module _ (register_keeps : g.keeps register_then y then_is.register) (rises : (other : Actor) → (g.knows register_is other).index ≤ (g.knows register_then other).index) (knows : s.index ≤ (g.knows register_then who).index)
      (proposes : (change : Change) → proposal ≡ Some change → IsProposal (with_change owners_change c.owners.told.handed) (with_change store_change c.store.told.handed) change)
      (owners_keep : o.keeps owners_then then_is.owners) (keeps : KeepsHolds c.owners.holding holding)
      (own : (node : ℕ) → who ≢ Node node → o.own owners_then node ≡ o.own owners_are node)
      (mine : (node : ℕ) → who ≡ Node node → o.own owners_then node ≡ session_by o.by_boot s node (clocks.boots who))
      (store_keeps : st.keeps store_then y then_is.store)
      (standing : (d sector : ℕ) (content : List ℕ) (index : ℕ) → IsOnly c.store.writes c.store.told.greatest d sector content → st.stands store_is x c.store d sector content index → st.stands store_then y then_is.store d sector content index)
      (reading : (node sector : ℕ) (content : List ℕ) (asks : Asked) → st.asked store_is node ≡ Some asks → st.asked store_then node ≡ Some asks → IsOnly c.store.writes c.store.told.greatest asks.device sector content
      → st.will_read store_is x c.store node sector content → st.will_read store_then y then_is.store node sector content)
      (store_own : (node : ℕ) → who ≢ Node node → st.own store_then node ≡ st.own store_is node)
      (store_mine : (node : ℕ) → who ≡ Node node → st.own store_then node ≡ session_by st.by_boot s node (clocks.boots who))
      (made : st.made store_then ≡ st.made store_is) (labels : LabelsStand (st.made store_is) y)
      (apart : (past : OwnersPast) → o.keeps owners_then past → AreApart past.holding (HasRow (last past.told.chain)))
      (own_out : (node : ℕ) (write : Sent) → st.out_of store_is node ≡ Some write → st.own store_is node ≡ Some write.session) (own_out_then : (node : ℕ) (write : Sent) → st.out_of store_then node ≡ Some write → st.own store_then node ≡ Some write.session)
      (new_session : (node : ℕ) → st.own store_then node ≢ st.own store_is node → st.asked store_then node ≡ None)
      (out : (node : ℕ) → (st.out_of store_then node ≡ None) ⊎ (st.out_of store_then node ≡ st.out_of store_is node)) (asked : (node : ℕ) → (st.asked store_then node ≡ None) ⊎ (st.asked store_then node ≡ st.asked store_is node))
      (done : (node : ℕ) (write : Sent) → st.out_of store_is node ≡ Some write → st.out_of store_then node ≡ None → st.own store_then node ≡ Some write.session → LivesIn (last c.register.chain) write.session
      → (d sector : ℕ) (content : List ℕ) → WritesTo write d sector content → IsOnly then_is.store.writes then_is.store.told.greatest d sector content → st.stands store_then y then_is.store d sector content (then_is.store.told.knew (Node node)))
      (lives : (session end : ℕ) → Contains c.owners.leases (session, end) → c.owners.told.greatest ≤ end + 500 → LivesIn (last c.register.chain) session)
      (alone : (one other block : ℕ) (hold : Hold) → LivesIn (last c.register.chain) one → HasRow (last c.register.chain) other → c.owners.holding one block ≡ Some hold → oldest c.register.chain ≤ other) where
    -- a session that was the node's and lives is its still
    kept : (node its : ℕ) (row : SessionRow) → row_in (last c.register.chain).sessions its ≡ Some row → row.dead ≡ 0 → own_up clocks.down (o.own owners_are) node ≡ Some its → own_up clocks.down (o.own owners_then) node ≡ Some its
    kept node its row is alive had = ⊎_elim
        (λ same.
        let was = own_of clocks.down (o.own owners_are) node its had in
        let t = at_first.sessions.told node its had in
        let low : c.store.told.knew (Node node) ≤ s.index = subst (λ (a : Actor). c.store.told.knew a ≤ s.index) same order in
        let boots : clocks.boots (Node node) ≡ clocks.boots who = ap clocks.boots (sym same) in
        let told = own_kept c.register.chain o.by_boot t.state s node (clocks.boots (Node node)) its allowed t.place place (let e = t.at in omega (arith, e, low)) t.by (lives_of (last c.register.chain) its row is alive) in
        own_is clocks.down (o.own owners_then) node its was.0 (mine node same ∙ ap (λ (n : ℕ). session_by o.by_boot s node n) (sym boots) ∙ told))
        (λ differ. let was = own_of clocks.down (o.own owners_are) node its had in own_is clocks.down (o.own owners_then) node its was.0 (own node differ ∙ was.1))
        (same_or_not who (Node node))

    -- whose a session is by the state
    its_of : (node its : ℕ) (row : SessionRow) → who ≡ Node node → o.own owners_then node ≡ Some its → row_in (last c.register.chain).sessions its ≡ Some row → row.dead ≡ 0 → IsOfNode o.by_boot clocks node row
    its_of node its row same is found alive =
        let boots : clocks.boots who ≡ clocks.boots (Node node) = ap clocks.boots same in
        let told = own_kept c.register.chain o.by_boot s (last c.register.chain) node (clocks.boots who) its allowed place (last_place c.register.chain) (index_most c.register.chain s place) (sym (mine node same) ∙ is) (lives_of (last c.register.chain) its row found alive) in
        let one = own_row o.by_boot (last c.register.chain) node (clocks.boots who) its (allowed.each (last c.register.chain) (last_place c.register.chain)) told in
        let e : one.row ≡ row = same_row one.row row one.is found in
        record { up = subst (λ (a : Actor). clocks.down a ≡ false) same up; of = ap (λ (r : SessionRow). r.node) (sym e) ∙ one.of; boot = λ so. ap (λ (r : SessionRow). r.boot) (sym e) ∙ one.booted so ∙ boots }
      where
        same_row : (a b : SessionRow) → row_in (last c.register.chain).sessions its ≡ Some a → row_in (last c.register.chain).sessions its ≡ Some b → a ≡ b
        same_row a b first second = cc

    -- what it shows under its session it showed, or that session is new to it and it shows nothing
    shows : (node its : ℕ) → who ≡ Node node → o.own owners_then node ≡ Some its → LivesIn (last c.register.chain) its
        → ((o.own owners_are node ≡ Some its) × (shown (slice_get machines node) (o.own owners_then node) ≡ shown (slice_get machines node) (o.own owners_are node))) ⊎ ((place_of : ℕ) (mode : Mode) → shown (slice_get machines node) (o.own owners_then node) place_of mode ≡ None)
    shows node its same is live = ⊎_elim
        (λ had. inl (had, ap (λ (own_it : Option ℕ). shown (slice_get machines node) own_it) (is ∙ sym had)))
        (λ apart_it. inr (λ place_of mode. none apart_it place_of mode (slice_get machines node) refl))
        (own_or_not (o.own owners_are node) its)
      where
        none : o.own owners_are node ≢ Some its → (place_of : ℕ) (mode : Mode) (found : Option MachineView) → slice_get machines node ≡ found → shown found (o.own owners_then node) place_of mode ≡ None
        none apart_it place_of mode None there = refl
        none apart_it place_of mode (Some machine) there = by (marks machine.session (o.own owners_then node)) refl
          where
            by : (t : Bool) → marks machine.session (o.own owners_then node) ≡ t → shown (Some machine) (o.own owners_then node) place_of mode ≡ None
            by false fails = ap (λ (t : Bool). (if t then machine.held else nothing_held) place_of mode) fails
            by true marked =
                let row = lives_row (last c.register.chain) its live in
                let mark : machine.session ≡ Some its = the_mark machine.session (o.own owners_then node) marked is in
                let had = about_first.marked node its machine row.0 (its_of node its row.0 same is row.1 row.2) there mark row.1 row.2 in
                absurd (apart_it (own_of clocks.down (o.own owners_are) node its had).1)
              where
                the_mark : (mark own_it : Option ℕ) → marks mark own_it ≡ true → own_it ≡ Some its → mark ≡ Some its
                the_mark None own_it none_marked own_is_it = absurd cc
                the_mark (Some a) None none_marked own_is_it = absurd cc
                the_mark (Some a) (Some b) both own_is_it = (let e : a ≡ b = grind (arith, nat_tests, both) in ap (λ (n : ℕ). Some n) e) ∙ own_is_it

    at_then : StandsAt g o st Stands Step register_then owners_then store_then y (known_of g o st Stands Step register_then owners_then store_then y then_letters (heard_clocks clocks input) machines) then_is tree
    at_then = ⊎_elim (λ node. by_node node.0 node.1) (λ none. by_other none) (node_or_not who)
      where
        known : Known
        known = known_of g o st Stands Step register_is owners_are store_is x letters clocks machines

        by_other : IsNoNode who → StandsAt g o st Stands Step register_then owners_then store_then y (known_of g o st Stands Step register_then owners_then store_then y then_letters (heard_clocks clocks input) machines) then_is tree
        by_other none = subst (λ (k : Known). StandsAt g o st Stands Step register_then owners_then store_then y k then_is tree)
            (λ i. record { letters = then_letters; clocks = heard_clocks clocks input; held = λ n. shown (slice_get machines n) (sym (own n (not_it who none n)) i); hints = λ n. hinted (slice_get machines n) })
            (heard_by g o st Stands Step register_is register_then owners_are owners_then store_is store_then x y (known_of g o st Stands Step register_is owners_are store_is x letters clocks machines) c tree who s.index input owners_change store_change proposal then_letters holding
            at_first none register_keeps rises knows proposes owners_keep keeps (λ n. own n (not_it who none n)) store_keeps standing (λ n. store_own n (not_it who none n)) made labels apart)

        by_node : (node : ℕ) → who ≡ Node node → StandsAt g o st Stands Step register_then owners_then store_then y (known_of g o st Stands Step register_then owners_then store_then y then_letters (heard_clocks clocks input) machines) then_is tree
        by_node node same = subst (λ (a : Actor). StandsAt g o st Stands Step register_then owners_then store_then y (known_of g o st Stands Step register_then owners_then store_then y then_letters (heard_clocks clocks input) machines)
            (heard_course c a s.index input owners_change store_change proposal then_letters holding) tree) (sym same)
            (heard_at g o st Stands Step register_is register_then owners_are owners_then store_is store_then x y (known_of g o st Stands Step register_is owners_are store_is x letters clocks machines) c tree node s input owners_change store_change proposal then_letters holding
            (λ n. shown (slice_get machines n) (o.own owners_then n)) at_first allowed (subst (λ (a : Actor). clocks.down a ≡ false) same up) place (subst (λ (a : Actor). c.store.told.knew a ≤ s.index) same order)
            register_keeps rises (subst (λ (a : Actor). s.index ≤ (g.knows register_then a).index) same knows) proposes
            (subst (λ (a : Actor). o.keeps owners_then (record c.owners { told = told_then c.owners.told a s.index input owners_change then_letters; holding = holding })) same owners_keep) keeps
            (λ other ne. own other (λ e. ne (sym same ∙ e))) (mine node same ∙ ap (λ (a : Actor). session_by o.by_boot s node (clocks.boots a)) same)
            (subst (λ (a : Actor). st.keeps store_then y (record c.store { told = told_then c.store.told a s.index input store_change then_letters })) same store_keeps)
            (λ d sector content index only was. subst (λ (a : Actor). st.stands store_then y (record c.store { told = told_then c.store.told a s.index input store_change then_letters }) d sector content index) same (standing d sector content index only was))
            (λ other ne. store_own other (λ e. ne (sym same ∙ e))) (store_mine node same ∙ ap (λ (a : Actor). session_by st.by_boot s node (clocks.boots a)) same)
            made labels apart (λ other ne. ap (λ (own_it : Option ℕ). shown (slice_get machines other) own_it) (own other (λ e. ne (sym same ∙ e))))
            (λ session is live. shows node session same is live))

    quiet : (node its : ℕ) → own_up clocks.down (o.own owners_then) node ≡ Some its → own_up clocks.down (o.own owners_are) node ≢ Some its → (st.out_of store_then node ≡ None) × (st.asked store_then node ≡ None)
    quiet node its is apart_it = (none_out (st.out_of store_then node) refl, new_session node new)
      where
        had : (clocks.down (Node node) ≡ false) × (o.own owners_then node ≡ Some its)
        had = own_of clocks.down (o.own owners_then) node its is

        now : st.own store_then node ≡ Some its
        now = sym (at_then.parts.own node had.0) ∙ had.1

        was_not : st.own store_is node ≢ Some its
        was_not e = apart_it (own_is clocks.down (o.own owners_are) node its had.0 (at_first.parts.own node had.0 ∙ e))

        new : st.own store_then node ≢ st.own store_is node
        new e = was_not (sym e ∙ now)

        none_out : (found : Option Sent) → st.out_of store_then node ≡ found → found ≡ None
        none_out None there = refl
        none_out (Some write) there = absurd (⊎_elim
            (λ gone. (let wrong : None ≡ Some write = sym gone ∙ there in cc))
            (λ same. new (own_out_then node write there ∙ sym (own_out node write (sym same ∙ there))))
            (out node))

    told : (node its : ℕ) → ((other : ℕ) (one : ℕ) → own_up clocks.down (o.own owners_are) other ≡ Some one → who ≢ Node other → (g.knows register_then (Node other)).index ≤ c.store.told.knew (Node other)) → (g.knows register_then who).index ≤ s.index
        → own_up clocks.down (o.own owners_then) node ≡ Some its → (g.knows register_then (Node node)).index ≤ then_is.store.told.knew (Node node)
    told node its others here is = ⊎_elim
        (λ same. subst (λ (a : Actor). (g.knows register_then a).index ≤ put_at who s.index c.store.told.knew a) same
        (subst (λ (n : ℕ). (g.knows register_then who).index ≤ n) (sym (ap (λ (t : Bool). if t then s.index else c.store.told.knew who) (is_itself who))) here))
        (λ differ.
        let had = own_of clocks.down (o.own owners_then) node its is in
        let low = others node its (own_is clocks.down (o.own owners_are) node its had.0 (sym (own node differ) ∙ had.1)) differ in
        let e : put_at who s.index c.store.told.knew (Node node) ≡ c.store.told.knew (Node node) = there differ in omega (arith, low, e))
        (same_or_not who (Node node))
      where
        there : who ≢ Node node → put_at who s.index c.store.told.knew (Node node) ≡ c.store.told.knew (Node node)
        there differ = by (is_same who (Node node)) refl
          where
            by : (t : Bool) → is_same who (Node node) ≡ t → put_at who s.index c.store.told.knew (Node node) ≡ c.store.told.knew (Node node)
            by true same = absurd (differ (is_one who (Node node) same))
            by false apart_is = ap (λ (t : Bool). if t then s.index else c.store.told.knew (Node node)) apart_is

    more : (node : ℕ) → c.store.told.knew (Node node) ≤ then_is.store.told.knew (Node node)
    more node = by (is_same who (Node node)) refl
      where
        by : (t : Bool) → is_same who (Node node) ≡ t → c.store.told.knew (Node node) ≤ put_at who s.index c.store.told.knew (Node node)
        by true same =
            let e = is_one who (Node node) same in
            let f : put_at who s.index c.store.told.knew (Node node) ≡ s.index = ap (λ (t : Bool). if t then s.index else c.store.told.knew (Node node)) same in
            let low : c.store.told.knew (Node node) ≤ s.index = subst (λ (a : Actor). c.store.told.knew a ≤ s.index) e order in omega (arith, f, low)
        by false apart_is = let f : put_at who s.index c.store.told.knew (Node node) ≡ c.store.told.knew (Node node) = ap (λ (t : Bool). if t then s.index else c.store.told.knew (Node node)) apart_is in omega (arith, f)

    -- no closing is proposed that wasn't
    back : (gone by : ℕ) → Contains (with_change proposal c.register.proposed) (Close gone by) → Contains c.register.proposed (Close gone by)
    back gone by there = by_proposal proposal refl there
      where
        by_proposal : (one : Option Change) → proposal ≡ one → Contains (with_change one c.register.proposed) (Close gone by) → Contains c.register.proposed (Close gone by)
        by_proposal None is has = has
        by_proposal (Some change) is has = ⊎_elim (λ same. absurd ((proposes change is).no_close gone by same)) (λ before. before) (front_or_behind change c.register.proposed (Close gone by) has)

    -- The nodes stand then, with the machine's reading, where each node's register knows what that was handed.
    pub heard : ((other one : ℕ) → own_up clocks.down (o.own owners_are) other ≡ Some one → who ≢ Node other → (g.knows register_then (Node other)).index ≤ c.store.told.knew (Node other)) → (g.knows register_then who).index ≤ s.index
        → NodesStand g o st Stands Step register_then owners_then store_then y then_letters (heard_clocks clocks input) machines then_is tree
    heard others here = passing.passes g o st Stands Step register_is register_then owners_are owners_then store_is store_then x y letters then_letters clocks (heard_clocks clocks input) machines c tree then_is.register then_is.owners then_is.store
        at_first about_first recovering_first given_first allowed legal at_then made back keeps (λ block. omega arith) (λ write has. has) (rises_then c.store.told.greatest input)
        (λ node its row is_there alive of. (record { up = of.up; of = of.of; boot = of.boot }, more node)) standing
        (λ node its sector content asks is asks_it asks_then only was. reading node sector content asks asks_it asks_then only was)
        (λ node its row found alive of had. kept node its row found alive had) quiet (λ node its is. out node) (λ node its is. asked node)
        (λ node write is was none live. let had = own_of clocks.down (o.own owners_then) node write.session is in done node write was none (sym (at_then.parts.own node had.0) ∙ had.1) live)
        lives alone (λ node its is. told node its others here is)
