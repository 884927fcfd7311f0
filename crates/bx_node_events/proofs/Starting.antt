-- What the clauses of the three calls `restart` come to: a machine that was down starts again, the store first, the owners and the register then; the nodes stand.
use Rattle.std.proofs.Common.{◌≡◌, ◌≢◌, ⊎_elim, inr, ◌∙◌, ℕ, ◌+◌, ◌<◌, ◌≤◌, true, false, List, ◌++◌, Option, Some, None, refl, sym, ap, subst, arith}
use Rattle.std.specs.Prelude.{slice_get}
use Rattle.bx_base.specs.declared.names.Actor.{Actor}
use Rattle.bx_base.specs.declared.names.Actor.TheVariants.{Node}
use Rattle.bx_disk.specs.Disks.{Disks}
use Rattle.bx_facts.specs.declared.register.Register as register
use Rattle.bx_facts.specs.declared.store.Store as store
use Rattle.bx_facts.specs.Chains.{Chain, HasOwnBoot, HasRow, LivesIn, last, oldest}
use Rattle.bx_facts.specs.Disks.{SameLabels, SameMembers, SameReplicas}
use Rattle.bx_facts.specs.Holds.{OwnersPast, owners_restarted}
use Rattle.bx_facts.specs.Inputs.{AreAmong, IsOwners, IsRegisters, IsStores, SendsOnly}
use Rattle.bx_facts.specs.Machines.{OnlyAt, put_at}
use Rattle.bx_facts.specs.Pasts.{MayRestart, RegisterPast, Told, register_restarted, register_with}
use Rattle.bx_facts.specs.Writes.{Asked, GoesOn, IsOnly, StorePast, store_restarted}
use Rattle.bx_facts.proofs.Following.{none_new}
use Rattle.bx_facts.proofs.Machines.{elsewhere, here}
use Rattle.bx_global.specs.declared.state.GlobalState.{GlobalState}
use Rattle.bx_node_events.specs.Works.{KeepsWorks}
use Rattle.bx_node_events.proofs.Passing as passing
use Rattle.bx_node_events.proofs.Registered.{HandedLaws, registers_not_owners, registers_not_stores, same_lengths, same_member_lengths}
use Rattle.bx_node_events.proofs.Stopping.{node_or_none, same_number}
use Rattle.bx_node_machines.specs.Machines.{MachineView}
use Rattle.bx_node_machines.specs.Nodes.{IsOfNode, NodesStand, hinted, known_of, shown}
use Rattle.bx_node_machines.proofs.Showing.{shown_at}
use Rattle.bx_facts.specs.declared.owners.Owners as owners
use Rattle.bx_post.specs.declared.packets.Letter.{Letter}
use Rattle.bx_rows.specs.Words.{row_in}
use Rattle.bx_rows.specs.declared.session.SessionRow.{SessionRow}
use Rattle.bx_views.specs.Attempts.{Deed}
use Rattle.bx_views.specs.Truths.{Hints, Truth}
use Rattle.bx_world_standing.specs.Parts.{Clocks}
use Rattle.bx_world_standing.specs.Standing.{Course, Known, StandsAt, own_up}
use Rattle.bx_world_standing.proofs.Owns.{own_is, own_of}
use Rattle.bx_world_stays.proofs.Labels.{labels_keep, same_labels}
use Rattle.bx_world_stays.proofs.Stays.{only_stays}
use Rattle.bx_world_stops.proofs.Restarted.{owners_then_are, register_then_is, restarted, restarted_course, restarted_known, store_then_is}

-- What the clauses of a register's and of owners' `restart` say.
pub record RegisterStarts {G : Type 0} (g : register.Ghosts G) (old new : G) (y z : Disks) (who : Actor) (boot : ℕ) (box box_then : List Letter) : Type 0 where
  pub keeps : (past : RegisterPast) → g.keeps old y (register_with past box) → past.down who ≡ true → past.boots who < boot → g.keeps new z (register_with (register_restarted past who boot) box_then)
  pub others : OnlyAt who (g.knows old) (g.knows new)
  pub sent : SendsOnly IsRegisters box box_then
  pub sizes : z.sizes ≡ y.sizes
  pub members : SameMembers y z
  pub labels : SameLabels y z

pub record OwnersStart {O : Type 0} (o : owners.Ghosts O) (old new : O) (who : Actor) (boot reading : ℕ) : Type 0 where
  pub keeps : (past : OwnersPast) → o.keeps old past → MayRestart past.told who boot reading → o.keeps new (owners_restarted past who boot reading)
  pub others : (node : ℕ) → who ≢ Node node → o.own new node ≡ o.own old node

-- What a store's say of a past that it makes another of.
pub record StoreTries {S : Type 0} (st : store.Ghosts S) (old new : S) (x y : Disks) (who : Actor) (boot reading : ℕ) (then_is : StorePast → StorePast) : Type 0 where
  pub keeps : (past : StorePast) → st.keeps old x past → MayRestart past.told who boot reading → st.keeps new y (then_is past)
  pub stands : (past : StorePast) (d s : ℕ) (content : List ℕ) (index : ℕ) → st.keeps old x past → MayRestart past.told who boot reading → IsOnly past.writes past.told.greatest d s content
      → st.stands old x past d s content index → st.stands new y (then_is past) d s content index
  pub reads : (past : StorePast) (node s : ℕ) (content : List ℕ) (asks : Asked) → st.keeps old x past → MayRestart past.told who boot reading → who ≢ Node node → st.asked old node ≡ Some asks → IsOnly past.writes past.told.greatest asks.device s content
      → st.will_read old x past node s content → st.will_read new y (then_is past) node s content
  pub others : (node : ℕ) → who ≢ Node node → (st.own new node ≡ st.own old node) × (st.out_of new node ≡ st.out_of old node) × (st.asked new node ≡ st.asked old node)
  pub made : st.made new ≡ st.made old
  pub sizes : y.sizes ≡ x.sizes
  pub replicas : SameReplicas x y
  pub labels : SameLabels x y

-- A machine that is down may start again, by what owners and store were told.
module _ {G O S T : Type 0} (g : register.Ghosts G) (o : owners.Ghosts O) (st : store.Ghosts S) (Stands : Truth → Hints → T → Type 0) (Step : T → Deed → T → Type 0)
    (register_is : G) (owners_are : O) (store_is : S) (x : Disks) (letters : List Letter) (clocks : Clocks) (machines : List MachineView) (c : Course) (tree : T)
    (who : Actor) (boot reading : ℕ)
    (stands : NodesStand g o st Stands Step register_is owners_are store_is x letters clocks machines c tree)
    (down : clocks.down who ≡ true) (above : clocks.most < boot) (steady : clocks.greatest ≤ reading + 500) where
  may : (told : Told) → told.down who ≡ clocks.down who → told.boots who ≤ clocks.most → told.chain ≡ c.register.chain → told.greatest ≤ clocks.greatest → MayRestart told who boot reading
  may told is_down low chain late = record {
    down = is_down ∙ down;
    boot_rises = omega (arith, low, above);
    own_boot = subst (λ (chain : Chain). HasOwnBoot chain boot) (sym chain) (stands.at.pasts.next_boots boot above);
    steady = omega (arith, late, steady);
  }

  pub may_start : MayRestart c.owners.told who boot reading × MayRestart c.store.told who boot reading
  may_start = (
    may c.owners.told (stands.at.pasts.owners_down who) (stands.at.pasts.owners_most who) stands.at.pasts.owners_chain (let a = stands.at.pasts.owners_greatest in let b = stands.at.pasts.greatest in omega (arith, a, b)),
    may c.store.told (stands.at.pasts.store_down who) (stands.at.pasts.store_most who) stands.at.pasts.store_chain stands.at.pasts.greatest,
  )

module _ {G O S T : Type 0} (g : register.Ghosts G) (o : owners.Ghosts O) (st : store.Ghosts S) (Stands : Truth → Hints → T → Type 0) (Step : T → Deed → T → Type 0) (laws : HandedLaws g o st)
    (register_is register_then : G) (owners_are owners_then : O) (store_is store_then : S) (x y z : Disks) (letters box box_then : List Letter) (clocks : Clocks) (machines : List MachineView) (c : Course) (tree : T)
    (who : Actor) (boot reading : ℕ)
    (stands : NodesStand g o st Stands Step register_is owners_are store_is x (letters ++ box) clocks machines c tree)
    (down : clocks.down who ≡ true) (above : clocks.most < boot) (steady : clocks.greatest ≤ reading + 500)
    (none_of : (node session : ℕ) (row : SessionRow) → who ≡ Node node → row_in (last c.register.chain).sessions session ≡ Some row → row.dead ≡ 0 → row.node ≡ node → (o.by_boot ≡ true → row.boot ≡ boot) → ⊥)
    (register_starts : RegisterStarts g register_is register_then y z who boot box box_then) (owners_start : OwnersStart o owners_are owners_then who boot reading) (owners_none : (node : ℕ) → who ≡ Node node → o.own owners_then node ≡ None)
    (store_starts : StoreTries st store_is store_then x y who boot reading (λ past. store_restarted past who boot reading)) (store_none : (node : ℕ) → who ≡ Node node → st.own store_then node ≡ None) where
  abbrev known : Known
  known = known_of g o st Stands Step register_is owners_are store_is x (letters ++ box) clocks machines

  abbrev clocks_then : Clocks
  clocks_then = (restarted_known known who boot reading (letters ++ box_then)).clocks

  abbrev course_then : Course
  course_then = restarted_course c who boot reading (letters ++ box_then)

  may_owners : MayRestart c.owners.told who boot reading
  may_owners = (may_start g o st Stands Step register_is owners_are store_is x (letters ++ box) clocks machines c tree who boot reading stands down above steady).0

  may_store : MayRestart c.store.told who boot reading
  may_store = (may_start g o st Stands Step register_is owners_are store_is x (letters ++ box) clocks machines c tree who boot reading stands down above steady).1

  register_moved : g.keeps register_is y c.register
  register_moved = laws.registers_elsewhere register_is x y c.register stands.at.parts.register_keeps (same_lengths x y store_starts.sizes) store_starts.replicas store_starts.labels

  register_keeps : g.keeps register_then z (register_then_is c.register who boot (letters ++ box_then))
  register_keeps = register_starts.keeps (record c.register { letters = letters }) (subst (λ (posted : List Letter). g.keeps register_is y (record c.register { letters = posted })) stands.at.pasts.letters register_moved)
      (stands.at.pasts.down who ∙ down) (let low = stands.at.pasts.boots who in omega (arith, low, above))

  among : (Is : Letter → Type 0) → ((letter : Letter) → IsRegisters letter → Is letter → ⊥) → (posted : List Letter) → posted ≡ letters ++ box → AreAmong Is (letters ++ box_then) posted
  among Is apart posted same = subst (λ (l : List Letter). AreAmong Is (letters ++ box_then) l) (sym same) (none_new Is IsRegisters apart letters box box_then register_starts.sent)

  owners_keep : o.keeps owners_then (owners_then_are c.owners who boot reading (letters ++ box_then))
  owners_keep = laws.owners_lose owners_then (owners_restarted c.owners who boot reading) (letters ++ box_then) (owners_start.keeps c.owners stands.at.parts.owners_keep may_owners)
      (among IsOwners registers_not_owners c.owners.told.letters stands.at.pasts.owners_letters)

  abbrev store_started : StorePast
  store_started = store_restarted c.store who boot reading

  store_keeps : st.keeps store_then y store_started
  store_keeps = store_starts.keeps c.store stands.at.parts.store_keeps may_store

  moved : st.keeps store_then z store_started × GoesOn c.store.writes store_started.told.greatest (st.asked store_then) (st.settled store_then y store_started) (st.settled store_then z store_started)
      (st.will_read store_then y store_started) (st.will_read store_then z store_started) (st.stands store_then y store_started) (st.stands store_then z store_started)
  moved = laws.stores_elsewhere store_then y z store_started store_keeps (same_member_lengths y z register_starts.sizes) register_starts.members

  lost : st.keeps store_then z (store_then_is c.store who boot reading (letters ++ box_then)) × GoesOn c.store.writes store_started.told.greatest (st.asked store_then) (st.settled store_then z store_started) (st.settled store_then z (store_then_is c.store who boot reading (letters ++ box_then)))
      (st.will_read store_then z store_started) (st.will_read store_then z (store_then_is c.store who boot reading (letters ++ box_then))) (st.stands store_then z store_started) (st.stands store_then z (store_then_is c.store who boot reading (letters ++ box_then)))
  lost = laws.stores_lose store_then z store_started (letters ++ box_then) moved.0 (among IsStores registers_not_stores c.store.told.letters stands.at.pasts.store_letters)

  only_later : (d s : ℕ) (content : List ℕ) → IsOnly c.store.writes c.store.told.greatest d s content → IsOnly c.store.writes store_started.told.greatest d s content
  only_later d s content only = only_stays c.store.writes c.store.told.greatest store_started.told.greatest d s content (omega arith) only

  standing : (d s : ℕ) (content : List ℕ) (index : ℕ) → IsOnly c.store.writes c.store.told.greatest d s content → st.stands store_is x c.store d s content index
      → st.stands store_then z (store_then_is c.store who boot reading (letters ++ box_then)) d s content index
  standing d s content index only was =
      let later = only_later d s content only in
      lost.1.standing d s content index later (moved.1.standing d s content index later (store_starts.stands c.store d s content index stands.at.parts.store_keeps may_store only was))

  restarted_at : StandsAt g o st Stands Step register_then owners_then store_then z (restarted_known known who boot reading (letters ++ box_then)) course_then tree
  restarted_at = restarted g o st Stands Step register_is register_then owners_are owners_then store_is store_then x z known c tree who boot reading (letters ++ box_then) stands.at above register_keeps
      (λ other differ. let same = ap (λ (s : GlobalState). s.index) (register_starts.others.others other (λ e. differ (sym e))) in omega (arith, same))
      owners_keep owners_start.others (λ node same. (owners_none node same, store_none node same))
      lost.0 standing (λ node differ. (store_starts.others node differ).0) none_of store_starts.made
      (labels_keep (st.made store_is) y z register_starts.sizes (same_labels y z register_starts.labels) (labels_keep (st.made store_is) x y store_starts.sizes (same_labels x y store_starts.labels) stands.at.labels))
      (laws.apart owners_then)

  -- a machine that is another was up and is up, with its boot, and knows what it knew
  still_up : (node : ℕ) → who ≢ Node node → clocks_then.down (Node node) ≡ false → clocks.down (Node node) ≡ false
  still_up node differ up = sym (elsewhere who (Node node) false clocks.down (λ e. differ (sym e))) ∙ up

  owned : (node its : ℕ) → own_up clocks_then.down (o.own owners_then) node ≡ Some its → (own_up clocks.down (o.own owners_are) node ≡ Some its) × (who ≢ Node node)
  owned node its is =
      let had = own_of clocks_then.down (o.own owners_then) node its is in
      let differ : who ≢ Node node = λ e. (let wrong : None ≡ Some its = sym (owners_none node e) ∙ had.1 in cc) in
      (own_is clocks.down (o.own owners_are) node its (still_up node differ had.0) (sym (owners_start.others node differ) ∙ had.1), differ)

  -- a session that is or may come to be a node's is none of the one that starts
  other_of : (node its : ℕ) (row : SessionRow) → row_in (last c.register.chain).sessions its ≡ Some row → row.dead ≡ 0 → IsOfNode o.by_boot clocks_then node row → who ≢ Node node
  other_of node its row is alive of e = none_of node its row e is alive of.of (λ so. of.boot so ∙ ap (λ (a : Actor). put_at who boot clocks.boots a) (sym e) ∙ here who boot clocks.boots)

  abbrev Then : Known → Type 0
  Then k = StandsAt g o st Stands Step register_then owners_then store_then z k course_then tree

  abbrev known_then : Known
  known_then = known_of g o st Stands Step register_then owners_then store_then z (letters ++ box_then) clocks_then machines

  -- what is shown is shown by the sessions as they are then
  at_then : Then known_then
  at_then = ⊎_elim (λ node. by_node node.0 node.1) by_other (node_or_none who)
    where
      by_node : (node : ℕ) → who ≡ Node node → Then known_then
      by_node node same = shown_at g o st Stands Step register_then owners_then store_then z (restarted_known known who boot reading (letters ++ box_then)) course_then tree node
          (λ n. shown (slice_get machines n) (o.own owners_then n)) (λ n. hinted (slice_get machines n)) restarted_at
          (λ other ne. (ap (λ (own_it : Option ℕ). shown (slice_get machines other) own_it) (owners_start.others other (λ e. ne (same_number other node (sym e ∙ same)))), refl))
          (λ its own alive. absurd ((owned node its own).1 same))
          (restarted_at.volume.hinted node)

      by_other : ((node : ℕ) → who ≢ Node node) → Then known_then
      by_other none = subst Then
          (λ i. record { letters = letters ++ box_then; clocks = clocks_then; held = λ n. shown (slice_get machines n) (sym (owners_start.others n (none n)) i); hints = λ n. hinted (slice_get machines n) })
          restarted_at

  same_knew : (node : ℕ) → who ≢ Node node → put_at who 0 c.store.told.knew (Node node) ≡ c.store.told.knew (Node node)
  same_knew node differ = elsewhere who (Node node) 0 c.store.told.knew (λ e. differ (sym e))

  stand_then : NodesStand g o st Stands Step register_then owners_then store_then z (letters ++ box_then) clocks_then machines course_then tree
  stand_then = passing.passes g o st Stands Step register_is register_then owners_are owners_then store_is store_then x z (letters ++ box) (letters ++ box_then) clocks clocks_then machines c tree
      course_then.register course_then.owners course_then.store stands.at stands.about stands.recovering stands.given
      (record { each = λ s there. laws.allowed register_is x c.register s stands.at.parts.register_keeps there })
      (laws.legal register_is x c.register stands.at.parts.register_keeps)
      at_then store_starts.made (λ gone by there. there)
      (record { each = λ session block hold is. is }) (λ block. omega arith) (λ write has. has) (omega arith)
      (λ node its row is alive of.
      let differ = other_of node its row is alive of in
      (record { up = still_up node differ of.up; of = of.of; boot = λ so. of.boot so ∙ elsewhere who (Node node) boot clocks.boots (λ e. differ (sym e)) }, let e = same_knew node differ in omega (arith, e)))
      standing
      (λ node its s content asks own asked still only was.
      let later = only_later asks.device s content only in
      lost.1.reading node s content asks still later
      (moved.1.reading node s content asks still later (store_starts.reads c.store node s content asks stands.at.parts.store_keeps may_store (owned node its own).1 asked only was)))
      (λ node its row is alive of had.
      let differ = other_of node its row is alive of in
      own_is clocks_then.down (o.own owners_then) node its of.up (owners_start.others node differ ∙ (own_of clocks.down (o.own owners_are) node its had).1))
      (λ node its own apart. absurd (apart (owned node its own).0))
      (λ node its own. inr (store_starts.others node (owned node its own).1).1)
      (λ node its own. inr (store_starts.others node (owned node its own).1).2)
      (λ node write own out none alive. absurd (let same = (store_starts.others node (owned node write.session own).1).1 in let wrong : None ≡ Some write = sym none ∙ same ∙ out in cc))
      (λ session end has late. subst (λ (chain : Chain). LivesIn (last chain) session) stands.at.pasts.owners_chain (laws.lives owners_are c.owners session end stands.at.parts.owners_keep has late))
      (λ one other block hold alive has holds. subst (λ (chain : Chain). oldest chain ≤ other) stands.at.pasts.owners_chain
      (laws.alone owners_are c.owners one other block hold stands.at.parts.owners_keep
      (subst (λ (chain : Chain). LivesIn (last chain) one) (sym stands.at.pasts.owners_chain) alive) (subst (λ (chain : Chain). HasRow (last chain) other) (sym stands.at.pasts.owners_chain) has) holds))
      (λ node its own.
      let was = owned node its own in
      let low = stands.told node its was.0 in
      let same = ap (λ (s : GlobalState). s.index) (register_starts.others.others (Node node) (λ e. was.1 (sym e))) in
      let e = same_knew node was.1 in omega (arith, low, same, e))

  -- The nodes stand then.
  pub starts : (later : Course) × (later.register.chain ≡ c.register.chain) × (later.logs ≡ c.logs) × NodesStand g o st Stands Step register_then owners_then store_then z (letters ++ box_then) clocks_then machines later tree × KeepsWorks c later
  starts = (course_then, refl, refl, stand_then, record { slots = refl; doubts = refl })
