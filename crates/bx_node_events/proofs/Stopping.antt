-- A machine stops, or a fault stops it as it starts: the nodes stand. What the clauses of the three calls `crash` come to, though the machine's register may have known more than
-- the machine was handed.
use Rattle.std.proofs.Common.{◌≡◌, ◌≢◌, ◌⊎◌, ⊎_elim, inl, inr, ◌∙◌, ℕ, ◌≤◌, Bool, true, false, List, Contains, Option, Some, None, refl, sym, ap, subst, arith}
use Rattle.std.specs.Prelude.{if◌then◌else◌, slice_get}
use Rattle.bx_base.specs.declared.names.Actor.{Actor}
use Rattle.bx_base.specs.declared.names.Actor.TheVariants.{Member, Node, Replica, Server}
use Rattle.bx_disk.specs.Disks.{Disks}
use Rattle.bx_facts.specs.declared.register.Register as register
use Rattle.bx_facts.specs.declared.store.Store as store
use Rattle.bx_facts.specs.Chains.{Chain, HasRow, LivesIn, last, oldest}
use Rattle.bx_facts.specs.Holds.{OwnersPast, owners_crashed}
use Rattle.bx_facts.specs.Machines.{is_same, put_at}
use Rattle.bx_facts.specs.Pasts.{RegisterPast, register_crashed}
use Rattle.bx_facts.specs.Writes.{Asked, IsOnly, Sent, StorePast, store_crashed}
use Rattle.bx_global.specs.declared.change.Change.{Change}
use Rattle.bx_global.specs.declared.change.Change.TheVariants.{Close}
use Rattle.bx_global.specs.declared.state.GlobalState.{GlobalState}
use Rattle.bx_node_events.proofs.Passing as passing
use Rattle.bx_node_events.proofs.Registered.{HandedLaws}
use Rattle.bx_node_machines.specs.Machines.{MachineView}
use Rattle.bx_node_machines.specs.Nodes.{NodesStand, hinted, known_of, shown}
use Rattle.bx_node_machines.specs.Stopping.{StandsBut}
use Rattle.bx_node_machines.proofs.Showing.{shown_at}
use Rattle.bx_facts.specs.declared.owners.Owners as owners
use Rattle.bx_post.specs.declared.packets.Letter.{Letter}
use Rattle.bx_views.specs.Attempts.{Deed}
use Rattle.bx_views.specs.Truths.{Hints, Truth}
use Rattle.bx_world_standing.specs.Labels.{LabelsStand}
use Rattle.bx_world_standing.specs.Parts.{Clocks}
use Rattle.bx_world_standing.specs.Standing.{Course, Known, StandsAt, own_up}
use Rattle.bx_world_standing.proofs.Owns.{own_is, own_of}
use Rattle.bx_world_stops.proofs.Crashed.{crashed_clocks, crashed_course, up_then}
use Rattle.bx_world_stops.proofs.Stopped.{Stops, stopped}

-- a machine is a node, or none is
pub node_or_none : (who : Actor) → ((node : ℕ) × (who ≡ Node node)) ⊎ ((node : ℕ) → who ≢ Node node)
node_or_none (Node n) = inl (n, refl)
node_or_none (Replica n) = inr (λ node e. cc)
node_or_none (Server n) = inr (λ node e. cc)
node_or_none (Member n) = inr (λ node e. cc)

pub same_number : (one other : ℕ) → Node one ≡ Node other → one ≡ other
same_number one other e = cc

-- What the three are then, where a machine is down: of all others they say what they said.
pub record PartsStop {G O S : Type 0} (g : register.Ghosts G) (o : owners.Ghosts O) (st : store.Ghosts S) (register_is register_then : G) (owners_are owners_then : O) (store_is store_then : S) (x y : Disks) (c : Course) (who : Actor)
    (r : RegisterPast) (op : OwnersPast) (sp : StorePast) : Type 0 where
  pub register_keeps : g.keeps register_then y (record r { chain = c.register.chain })
  pub owners_keep : o.keeps owners_then op
  pub store_keeps : st.keeps store_then y sp
  pub owners_knew : (other : Actor) → op.told.knew other ≤ (g.knows register_then other).index
  pub store_knew : (other : Actor) → sp.told.knew other ≤ (g.knows register_then other).index
  pub knows : (other : Actor) → who ≢ other → g.knows register_then other ≡ g.knows register_is other
  pub own : (node : ℕ) → who ≢ Node node → o.own owners_then node ≡ o.own owners_are node
  pub stands : (d s : ℕ) (content : List ℕ) (index : ℕ) → IsOnly c.store.writes c.store.told.greatest d s content → st.stands store_is x c.store d s content index → st.stands store_then y sp d s content index
  pub reads : (node s : ℕ) (content : List ℕ) (asks : Asked) → who ≢ Node node → st.asked store_is node ≡ Some asks → IsOnly c.store.writes c.store.told.greatest asks.device s content
      → st.will_read store_is x c.store node s content → st.will_read store_then y sp node s content
  pub others : (node : ℕ) → who ≢ Node node → (st.own store_then node ≡ st.own store_is node) × (st.out_of store_then node ≡ st.out_of store_is node) × (st.asked store_then node ≡ st.asked store_is node)
  pub made : st.made store_then ≡ st.made store_is
  pub labels : LabelsStand (st.made store_is) y

module _ {G O S T : Type 0} (g : register.Ghosts G) (o : owners.Ghosts O) (st : store.Ghosts S) (Stands : Truth → Hints → T → Type 0) (Step : T → Deed → T → Type 0) (laws : HandedLaws g o st)
    (register_is register_then : G) (owners_are owners_then : O) (store_is store_then : S) (x y : Disks) (letters : List Letter) (clocks clocks_then : Clocks) (machines : List MachineView) (c : Course) (tree : T) (who : Actor)
    (r : RegisterPast) (op : OwnersPast) (sp : StorePast)
    (stands : StandsBut g o st Stands Step register_is owners_are store_is x who letters clocks machines c tree)
    (is : Stops (known_of g o st Stands Step register_is owners_are store_is x letters clocks machines) c who clocks_then letters r op sp)
    (parts : PartsStop g o st register_is register_then owners_are owners_then store_is store_then x y c who r op sp) where
  abbrev course_then : Course
  course_then = record c { register = record r { chain = c.register.chain }; owners = op; store = sp }

  -- who is up then was up, and isn't the one that stopped; and so has the session that it had
  still_up : (other : Actor) → clocks_then.down other ≡ false → (clocks.down other ≡ false) × (who ≢ other)
  still_up other up = up_then clocks.down who other (sym (is.clocks_down other) ∙ up)

  owned : (node its : ℕ) → own_up clocks_then.down (o.own owners_then) node ≡ Some its → (own_up clocks.down (o.own owners_are) node ≡ Some its) × (who ≢ Node node)
  owned node its has =
      let had = own_of clocks_then.down (o.own owners_then) node its has in
      let was = still_up (Node node) had.0 in
      (own_is clocks.down (o.own owners_are) node its was.0 (sym (parts.own node was.1) ∙ had.1), was.1)

  abbrev Then : Known → Type 0
  Then k = StandsAt g o st Stands Step register_then owners_then store_then y k course_then tree

  stopped_at : Then (record (known_of g o st Stands Step register_is owners_are store_is x letters clocks machines) { letters = letters; clocks = clocks_then })
  stopped_at = stopped g o st Stands Step register_is register_then owners_are owners_then store_is store_then x y (known_of g o st Stands Step register_is owners_are store_is x letters clocks machines) c tree who clocks_then letters r op sp
      stands.at is parts.register_keeps parts.owners_keep parts.owners_knew parts.store_knew parts.own parts.store_keeps parts.stands
      (λ node differ. (parts.others node differ).0) parts.made parts.labels (laws.apart owners_then)

  -- what is shown is shown by the sessions as they are then
  at_then : Then (known_of g o st Stands Step register_then owners_then store_then y letters clocks_then machines)
  at_then = ⊎_elim (λ node. by_node node.0 node.1) by_other (node_or_none who)
    where
      by_node : (node : ℕ) → who ≡ Node node → Then (known_of g o st Stands Step register_then owners_then store_then y letters clocks_then machines)
      by_node node same = shown_at g o st Stands Step register_then owners_then store_then y
          (record (known_of g o st Stands Step register_is owners_are store_is x letters clocks machines) { letters = letters; clocks = clocks_then }) course_then tree node
          (λ n. shown (slice_get machines n) (o.own owners_then n)) (λ n. hinted (slice_get machines n)) stopped_at
          (λ other ne. (ap (λ (own_it : Option ℕ). shown (slice_get machines other) own_it) (parts.own other (λ e. ne (same_number other node (sym e ∙ same)))), refl))
          (λ its has alive. absurd ((owned node its has).1 same))
          (stopped_at.volume.hinted node)

      by_other : ((node : ℕ) → who ≢ Node node) → Then (known_of g o st Stands Step register_then owners_then store_then y letters clocks_then machines)
      by_other none = subst Then
          (λ i. record { letters = letters; clocks = clocks_then; held = λ n. shown (slice_get machines n) (sym (parts.own n (none n)) i); hints = λ n. hinted (slice_get machines n) })
          stopped_at

  -- The nodes stand, whatever the machine has.
  pub stays_down : NodesStand g o st Stands Step register_then owners_then store_then y letters clocks_then machines course_then tree
  stays_down = passing.passes g o st Stands Step register_is register_then owners_are owners_then store_is store_then x y letters letters clocks clocks_then machines c tree r op sp
      stands.at stands.about stands.recovering stands.given
      (record { each = λ s there. laws.allowed register_is x c.register s stands.at.parts.register_keeps there })
      (laws.legal register_is x c.register stands.at.parts.register_keeps)
      at_then parts.made (λ gone by there. subst (λ (l : List Change). Contains l (Close gone by)) is.proposed there) is.holds is.floor
      (λ write has. subst (λ (l : List Sent). Contains l write) is.writes has) is.later
      (λ node its row has alive of.
      let was = still_up (Node node) of.up in
      (record { up = was.0; of = of.of; boot = λ so. of.boot so ∙ is.clocks_boots (Node node) was.1 }, let e = is.store_knew (Node node) was.1 in omega (arith, e)))
      parts.stands
      (λ node its s content asks has asked still only was. parts.reads node s content asks (owned node its has).1 asked only was)
      (λ node its row has alive of had. own_is clocks_then.down (o.own owners_then) node its of.up
      (parts.own node (still_up (Node node) of.up).1 ∙ (own_of clocks.down (o.own owners_are) node its had).1))
      (λ node its has apart. absurd (apart (owned node its has).0))
      (λ node its has. inr (parts.others node (owned node its has).1).1)
      (λ node its has. inr (parts.others node (owned node its has).1).2)
      (λ node write has out none alive. absurd (let same = (parts.others node (owned node write.session has).1).1 in let wrong : None ≡ Some write = sym none ∙ same ∙ out in cc))
      (λ session end has late. subst (λ (chain : Chain). LivesIn (last chain) session) stands.at.pasts.owners_chain (laws.lives owners_are c.owners session end stands.at.parts.owners_keep has late))
      (λ one other block hold alive has holds. subst (λ (chain : Chain). oldest chain ≤ other) stands.at.pasts.owners_chain
      (laws.alone owners_are c.owners one other block hold stands.at.parts.owners_keep
      (subst (λ (chain : Chain). LivesIn (last chain) one) (sym stands.at.pasts.owners_chain) alive) (subst (λ (chain : Chain). HasRow (last chain) other) (sym stands.at.pasts.owners_chain) has) holds))
      (λ node its has.
      let was = owned node its has in
      let low = stands.told node its was.1 was.0 in
      let same = ap (λ (s : GlobalState). s.index) (parts.knows (Node node) was.1) in
      let e = is.store_knew (Node node) was.1 in omega (arith, low, same, e))

-- What the clauses of a register's, of owners' and of a store's `crash` say.
pub record RegisterStops {G : Type 0} (g : register.Ghosts G) (old new : G) (who : Actor) : Type 0 where
  pub keeps : (x : Disks) (past : RegisterPast) → g.keeps old x past → g.keeps new x (register_crashed past who)
  pub knows : (other : Actor) → g.knows new other ≡ g.knows old other

pub record OwnersStop {O : Type 0} (o : owners.Ghosts O) (old new : O) (who : Actor) : Type 0 where
  pub keeps : (past : OwnersPast) → o.keeps old past → o.keeps new (owners_crashed past who)
  pub others : (node : ℕ) → who ≢ Node node → o.own new node ≡ o.own old node

pub record StoreStops {S : Type 0} (st : store.Ghosts S) (old new : S) (who : Actor) : Type 0 where
  pub keeps : (x : Disks) (past : StorePast) → st.keeps old x past → st.keeps new x (store_crashed past who)
  pub stands : (x : Disks) (past : StorePast) (d s : ℕ) (content : List ℕ) (index : ℕ) → st.keeps old x past → st.stands old x past d s content index → st.stands new x (store_crashed past who) d s content index
  pub reads : (x : Disks) (past : StorePast) (node s : ℕ) (content : List ℕ) → who ≢ Node node → st.keeps old x past → st.will_read old x past node s content → st.will_read new x (store_crashed past who) node s content
  pub others : (node : ℕ) → who ≢ Node node → (st.own new node ≡ st.own old node) × (st.out_of new node ≡ st.out_of old node) × (st.asked new node ≡ st.asked old node)
  pub made : st.made new ≡ st.made old

same_put : (who other : Actor) (one two : Actor → Bool) → one other ≡ two other → put_at who true one other ≡ put_at who true two other
same_put who other one two same = ap (λ (d : Bool). if is_same who other then true else d) same

module _ {G O S T : Type 0} (g : register.Ghosts G) (o : owners.Ghosts O) (st : store.Ghosts S) (Stands : Truth → Hints → T → Type 0) (Step : T → Deed → T → Type 0) (laws : HandedLaws g o st)
    (register_is register_then : G) (owners_are owners_then : O) (store_is store_then : S) (x : Disks) (letters : List Letter) (clocks : Clocks) (machines : List MachineView) (c : Course) (tree : T) (who : Actor)
    (stands : StandsBut g o st Stands Step register_is owners_are store_is x who letters clocks machines c tree)
    (register_stops : RegisterStops g register_is register_then who) (owners_stop : OwnersStop o owners_are owners_then who) (store_stops : StoreStops st store_is store_then who) where
  is_down : Stops (known_of g o st Stands Step register_is owners_are store_is x letters clocks machines) c who (crashed_clocks clocks who) letters (register_crashed c.register who) (owners_crashed c.owners who) (store_crashed c.store who)
  is_down = record {
    clocks_down = λ other. refl;
    clocks_boots = λ other differ. refl;
    most = omega arith;
    owners_chain = stands.at.pasts.owners_chain;
    store_chain = stands.at.pasts.store_chain;
    letters_are = stands.at.pasts.letters;
    owners_letters = stands.at.pasts.owners_letters;
    store_letters = stands.at.pasts.store_letters;
    down = λ other. same_put who other c.register.down clocks.down (stands.at.pasts.down other);
    owners_down = λ other. same_put who other c.owners.told.down clocks.down (stands.at.pasts.owners_down other);
    store_down = λ other. same_put who other c.store.told.down clocks.down (stands.at.pasts.store_down other);
    boots = stands.at.pasts.boots;
    owners_most = stands.at.pasts.owners_most;
    store_most = stands.at.pasts.store_most;
    owners_boots = λ other differ. refl;
    store_boots = λ other differ. refl;
    owners_handed = refl;
    store_handed = refl;
    proposed = refl;
    owners_greatest = stands.at.pasts.owners_greatest;
    greatest = stands.at.pasts.greatest;
    later = omega arith;
    store_knew = λ other differ. refl;
    writes = refl;
    leases = refl;
    floor = λ block. omega arith;
    holds = record { each = λ session block hold has. has };
  }

  parts_stop : PartsStop g o st register_is register_then owners_are owners_then store_is store_then x x c who (register_crashed c.register who) (owners_crashed c.owners who) (store_crashed c.store who)
  parts_stop = record {
    register_keeps = register_stops.keeps x c.register stands.at.parts.register_keeps;
    owners_keep = owners_stop.keeps c.owners stands.at.parts.owners_keep;
    store_keeps = store_stops.keeps x c.store stands.at.parts.store_keeps;
    owners_knew = λ other. subst (λ (s : GlobalState). c.owners.told.knew other ≤ s.index) (sym (register_stops.knows other)) (stands.at.parts.owners_knew other);
    store_knew = λ other. subst (λ (s : GlobalState). c.store.told.knew other ≤ s.index) (sym (register_stops.knows other)) (stands.at.parts.store_knew other);
    knows = λ other differ. register_stops.knows other;
    own = owners_stop.others;
    stands = λ d s content index only was. store_stops.stands x c.store d s content index stands.at.parts.store_keeps was;
    reads = λ node s content asks differ asked only was. store_stops.reads x c.store node s content differ stands.at.parts.store_keeps was;
    others = store_stops.others;
    made = store_stops.made;
    labels = stands.at.labels;
  }

  -- A machine stops: the nodes stand, whatever it had.
  pub stops : NodesStand g o st Stands Step register_then owners_then store_then x letters (crashed_clocks clocks who) machines (crashed_course c who) tree
  stops = stays_down g o st Stands Step laws register_is register_then owners_are owners_then store_is store_then x x letters clocks (crashed_clocks clocks who) machines c tree who
      (register_crashed c.register who) (owners_crashed c.owners who) (store_crashed c.store who) stands is_down parts_stop

-- The nodes stand, so they do but for one.
pub but_for : {G O S T : Type 0} (g : register.Ghosts G) (o : owners.Ghosts O) (st : store.Ghosts S) (Stands : Truth → Hints → T → Type 0) (Step : T → Deed → T → Type 0) (register_is : G) (owners_are : O) (store_is : S) (x : Disks)
    (who : Actor) (letters : List Letter) (clocks : Clocks) (machines : List MachineView) (c : Course) (tree : T)
    → NodesStand g o st Stands Step register_is owners_are store_is x letters clocks machines c tree → StandsBut g o st Stands Step register_is owners_are store_is x who letters clocks machines c tree
but_for g o st Stands Step register_is owners_are store_is x who letters clocks machines c tree stands = record {
  at = stands.at;
  about = stands.about;
  recovering = stands.recovering;
  single = stands.single;
  told = λ node session differ own. stands.told node session own;
  given = stands.given;
}

-- and they stand, where that one is no node
pub but_none : {G O S T : Type 0} (g : register.Ghosts G) (o : owners.Ghosts O) (st : store.Ghosts S) (Stands : Truth → Hints → T → Type 0) (Step : T → Deed → T → Type 0) (register_is : G) (owners_are : O) (store_is : S) (x : Disks)
    (who : Actor) (letters : List Letter) (clocks : Clocks) (machines : List MachineView) (c : Course) (tree : T) → ((node : ℕ) → who ≢ Node node)
    → StandsBut g o st Stands Step register_is owners_are store_is x who letters clocks machines c tree → NodesStand g o st Stands Step register_is owners_are store_is x letters clocks machines c tree
but_none g o st Stands Step register_is owners_are store_is x who letters clocks machines c tree none but = record {
  at = but.at;
  about = but.about;
  recovering = but.recovering;
  single = but.single;
  told = λ node session own. but.told node session (none node) own;
  given = but.given;
}
