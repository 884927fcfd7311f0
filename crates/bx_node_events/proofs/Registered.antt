-- What a register leaves that was handed an input, by its clauses: the chain grows by what it decided, and the nodes stand, but that the machine may not have been handed what
-- its register knows now.
use Rattle.std.proofs.Common.{◌≡◌, ◌≢◌, ◌⊎◌, ⊎_elim, inl, inr, ◌∙◌, ℕ, ◌+◌, ◌≤◌, false, List, ◌++◌, Contains, Some, refl, sym, ap, subst, arith}
use Rattle.std.specs.Prelude.{slice_index}
use Rattle.std.proofs.lemmas.List.Elements.{Contains-append_cases, Contains-append_left, Contains-append_right}
use Rattle.bx_base.specs.declared.names.Actor.{Actor}
use Rattle.bx_base.specs.declared.names.Actor.TheVariants.{Node}
use Rattle.bx_disk.specs.Disks.{Disks}
use Rattle.bx_facts.specs.declared.input.Input.{Input}
use Rattle.bx_facts.specs.declared.register.Register as register
use Rattle.bx_facts.specs.declared.store.Store as store
use Rattle.bx_facts.specs.Chains.{AreLegal, Chain, GrowsBy, HasRow, IsOwnersOwn, IsPlace, IsStoresOwn, LivesIn, grown, last, oldest}
use Rattle.bx_facts.specs.Disks.{SameLabels, SameLengths, SameMemberLengths, SameMembers, SameReplicas}
use Rattle.bx_facts.specs.Holds.{Hold, OwnersPast, owners_grown}
use Rattle.bx_facts.specs.Inputs.{AreAmong, IsComing, IsOwners, IsRegisters, IsStores, SendsOnly}
use Rattle.bx_facts.specs.Machines.{OnlyAt}
use Rattle.bx_facts.specs.Pasts.{Decides, MayHear, RegisterPast, register_with}
use Rattle.bx_facts.specs.Writes.{GoesOn, Sent, StorePast, store_grown}
use Rattle.bx_facts.proofs.Following.{none_new, not_both}
use Rattle.bx_global.specs.Allowed.{IsAllowed}
use Rattle.bx_global.specs.declared.change.Change.{Change}
use Rattle.bx_global.specs.declared.state.GlobalState.{GlobalState}
use Rattle.bx_global.specs.Table.{IsLegal}
use Rattle.bx_node_events.proofs.Decided as decided
use Rattle.bx_node_events.proofs.Decided.{lettered}
use Rattle.bx_node_events.proofs.Taken.{tightened}
use Rattle.bx_node_machines.specs.Machines.{MachineView}
use Rattle.bx_node_machines.specs.Nodes.{NodesStand}
use Rattle.bx_node_machines.specs.Stopping.{StandsBut}
use Rattle.bx_facts.specs.declared.owners.Owners as owners
use Rattle.bx_post.specs.declared.packets.Letter.{Letter}
use Rattle.bx_views.specs.Attempts.{Deed}
use Rattle.bx_views.specs.Truths.{Hints, Truth}
use Rattle.bx_world_chains.specs.Entitled.{AreAllowed}
use Rattle.bx_world_standing.specs.Labels.{LabelsStand}
use Rattle.bx_world_standing.specs.Parts.{Clocks}
use Rattle.bx_world_standing.specs.Standing.{Course, own_up}
use Rattle.bx_world_standing.proofs.Grows.{grown_course}
use Rattle.bx_world_stays.proofs.Labels.{labels_keep, same_labels}
use Rattle.bx_world_views.specs.Views.{AreApart}

-- the chain is as it was, or this is its last state
abbrev pub IsLast : GlobalState → Chain → Chain → Type 0
IsLast known old new = (new ≡ old) ⊎ (known ≡ last new)

-- What the volume has is as it was.
pub record SameVolume (old new : Course) : Type 0 where
  pub before : new.before ≡ old.before
  pub logs : new.logs ≡ old.logs
  pub slots : new.slots ≡ old.slots
  pub truth : new.truth ≡ old.truth
  pub doubts : new.doubts ≡ old.doubts

same_volume : (c : Course) → SameVolume c c
same_volume c = record { before = refl; logs = refl; slots = refl; truth = refl; doubts = refl }

-- What a register's clauses say of an input that it took.
pub record RegisterTook {G : Type 0} (g : register.Ghosts G) (old new : G) (x y : Disks) (who : Actor) (input : Input) (box box_then : List Letter) : Type 0 where
  pub keeps : (past : RegisterPast) → g.keeps old x (register_with past box) → MayHear (register_with past box) who input → Decides (g.keeps new y) (g.knows new who) (register_with past box_then)
  pub rises : (other : Actor) → (g.knows old other).index ≤ (g.knows new other).index
  pub others : OnlyAt who (g.knows old) (g.knows new)
  pub sent : SendsOnly IsRegisters box box_then
  pub sizes : y.sizes ≡ x.sizes
  pub members : SameMembers x y
  pub labels : SameLabels x y

-- letters of one layer are among others where they were twice
pub among_both : (Is : Letter → Type 0) (one two three : List Letter) → AreAmong Is two three → AreAmong Is one two → AreAmong Is one three
among_both Is one two three far near = record { each = λ letter own has. far.each letter own (near.each letter own has) }

-- what was in the box is under way still
pub kept_by : (Is : Letter → Type 0) (all old new : List Letter) → SendsOnly Is old new → (letter : Letter) → Contains (all ++ old) letter → Contains (all ++ new) letter
kept_by Is all old new sends letter has = ⊎_elim
    (λ before. Contains-append_left all new letter before)
    (λ in_box. Contains-append_right all new letter (sends.kept letter in_box))
    (Contains-append_cases all old letter has)

pub registers_not_stores : (letter : Letter) → IsRegisters letter → IsStores letter → ⊥
registers_not_stores letter one other = let a = one.most in let b = other.least in omega (arith, a, b)

pub owners_not_stores : (letter : Letter) → IsOwners letter → IsStores letter → ⊥
owners_not_stores letter one other = let a = one.most in let b = other.least in omega (arith, a, b)

pub owners_not_registers : (letter : Letter) → IsOwners letter → IsRegisters letter → ⊥
owners_not_registers letter one other = not_both letter other one

pub registers_not_owners : (letter : Letter) → IsRegisters letter → IsOwners letter → ⊥
registers_not_owners letter one other = not_both letter one other

pub same_lengths : (x y : Disks) → y.sizes ≡ x.sizes → SameLengths x y
same_lengths x y same = record { each = λ d low. ap (λ (sizes : List ℕ). slice_index sizes d) same }

pub same_member_lengths : (x y : Disks) → y.sizes ≡ x.sizes → SameMemberLengths x y
same_member_lengths x y same = record { each = λ d low. ap (λ (sizes : List ℕ). slice_index sizes d) same }

-- The laws that an input needs.
pub record HandedLaws {G O S : Type 0} (g : register.Ghosts G) (o : owners.Ghosts O) (st : store.Ghosts S) : Type 0 where
  pub allowed : (one : G) (w : Disks) (past : RegisterPast) (s : GlobalState) → g.keeps one w past → IsPlace past.chain s → IsAllowed s
  pub legal : (one : G) (w : Disks) (past : RegisterPast) → g.keeps one w past → AreLegal past.chain.first past.chain.changes
  pub places : (one : G) (w : Disks) (past : RegisterPast) (who : Actor) → g.keeps one w past → IsPlace past.chain (g.knows one who)
  pub registers_elsewhere : (one : G) (w v : Disks) (past : RegisterPast) → g.keeps one w past → SameLengths w v → SameReplicas w v → SameLabels w v → g.keeps one v past
  pub registers_lose : (one : G) (w : Disks) (past : RegisterPast) (letters : List Letter) → g.keeps one w past → AreAmong IsRegisters letters past.letters → g.keeps one w (record past { letters = letters })
  pub lives : (one : O) (past : OwnersPast) (session end : ℕ) → o.keeps one past → Contains past.leases (session, end) → past.told.greatest ≤ end + 500 → LivesIn (last past.told.chain) session
  pub apart : (one : O) (past : OwnersPast) → o.keeps one past → AreApart past.holding (HasRow (last past.told.chain))
  pub alone : (one : O) (past : OwnersPast) (session other block : ℕ) (hold : Hold) → o.keeps one past → LivesIn (last past.told.chain) session → HasRow (last past.told.chain) other → past.holding session block ≡ Some hold → oldest past.told.chain ≤ other
  pub owners_grow : (one : O) (past : OwnersPast) (change : Change) → o.keeps one past → IsLegal (last past.told.chain) change → IsOwnersOwn past.told.handed change → o.keeps one (owners_grown past change)
  pub owners_lose : (one : O) (past : OwnersPast) (letters : List Letter) → o.keeps one past → AreAmong IsOwners letters past.told.letters → o.keeps one (record past { told = record past.told { letters = letters } })
  pub own_out : (one : S) (w : Disks) (past : StorePast) (node : ℕ) (write : Sent) → st.keeps one w past → st.out_of one node ≡ Some write → st.own one node ≡ Some write.session
  pub stores_grow : (one : S) (w : Disks) (past : StorePast) (change : Change) → st.keeps one w past → IsLegal (last past.told.chain) change → IsStoresOwn past.told.handed change
      → st.keeps one w (store_grown past change) × GoesOn past.writes past.told.greatest (st.asked one) (st.settled one w past) (st.settled one w (store_grown past change)) (st.will_read one w past) (st.will_read one w (store_grown past change)) (st.stands one w past) (st.stands one w (store_grown past change))
  pub stores_elsewhere : (one : S) (w v : Disks) (past : StorePast) → st.keeps one w past → SameMemberLengths w v → SameMembers w v
      → st.keeps one v past × GoesOn past.writes past.told.greatest (st.asked one) (st.settled one w past) (st.settled one v past) (st.will_read one w past) (st.will_read one v past) (st.stands one w past) (st.stands one v past)
  pub stores_lose : (one : S) (w : Disks) (past : StorePast) (letters : List Letter) → st.keeps one w past → AreAmong IsStores letters past.told.letters
      → st.keeps one w (record past { told = record past.told { letters = letters } }) × GoesOn past.writes past.told.greatest (st.asked one) (st.settled one w past) (st.settled one w (record past { told = record past.told { letters = letters } }))
      (st.will_read one w past) (st.will_read one w (record past { told = record past.told { letters = letters } })) (st.stands one w past) (st.stands one w (record past { told = record past.told { letters = letters } }))

module _ {G O S T : Type 0} (g : register.Ghosts G) (o : owners.Ghosts O) (st : store.Ghosts S) (Stands : Truth → Hints → T → Type 0) (Step : T → Deed → T → Type 0) (laws : HandedLaws g o st)
    (register_is register_heard : G) (owners_are : O) (store_is : S) (x y : Disks) (letters box heard_box : List Letter) (clocks : Clocks) (machines : List MachineView)
    (who : Actor) (input : Input) (c : Course) (tree : T)
    (stands : NodesStand g o st Stands Step register_is owners_are store_is x (letters ++ box) clocks machines c tree)
    (up : clocks.down who ≡ false) (comes : IsComing (letters ++ box) input)
    (register_took : RegisterTook g register_is register_heard x y who input box heard_box) where
  decides : Decides (g.keeps register_heard y) (g.knows register_heard who) (record c.register { letters = letters ++ heard_box })
  decides = register_took.keeps (record c.register { letters = letters })
      (subst (λ (posted : List Letter). g.keeps register_is x (record c.register { letters = posted })) stands.at.pasts.letters stands.at.parts.register_keeps)
      (record { up = stands.at.pasts.down who ∙ up; comes = comes })

  allowed : AreAllowed c.register.chain
  allowed = record { each = λ s there. laws.allowed register_is x c.register s stands.at.parts.register_keeps there }

  legal : AreLegal c.register.chain.first c.register.chain.changes
  legal = laws.legal register_is x c.register stands.at.parts.register_keeps

  owners_lose : o.keeps owners_are (lettered c (letters ++ heard_box)).owners
  owners_lose = laws.owners_lose owners_are c.owners (letters ++ heard_box) stands.at.parts.owners_keep
      (subst (λ (posted : List Letter). AreAmong IsOwners (letters ++ heard_box) posted) (sym stands.at.pasts.owners_letters) (none_new IsOwners IsRegisters registers_not_owners letters box heard_box register_took.sent))

  moved : st.keeps store_is y c.store × GoesOn c.store.writes c.store.told.greatest (st.asked store_is) (st.settled store_is x c.store) (st.settled store_is y c.store) (st.will_read store_is x c.store) (st.will_read store_is y c.store) (st.stands store_is x c.store) (st.stands store_is y c.store)
  moved = laws.stores_elsewhere store_is x y c.store stands.at.parts.store_keeps (same_member_lengths x y register_took.sizes) register_took.members

  lost : st.keeps store_is y (lettered c (letters ++ heard_box)).store × GoesOn c.store.writes c.store.told.greatest (st.asked store_is) (st.settled store_is y c.store) (st.settled store_is y (lettered c (letters ++ heard_box)).store)
      (st.will_read store_is y c.store) (st.will_read store_is y (lettered c (letters ++ heard_box)).store) (st.stands store_is y c.store) (st.stands store_is y (lettered c (letters ++ heard_box)).store)
  lost = laws.stores_lose store_is y c.store (letters ++ heard_box) moved.0
      (subst (λ (posted : List Letter). AreAmong IsStores (letters ++ heard_box) posted) (sym stands.at.pasts.store_letters) (none_new IsStores IsRegisters registers_not_stores letters box heard_box register_took.sent))

  goes : GoesOn c.store.writes c.store.told.greatest (st.asked store_is) (st.settled store_is x c.store) (st.settled store_is y (lettered c (letters ++ heard_box)).store)
      (st.will_read store_is x c.store) (st.will_read store_is y (lettered c (letters ++ heard_box)).store) (st.stands store_is x c.store) (st.stands store_is y (lettered c (letters ++ heard_box)).store)
  goes = record {
    settles = λ d s content only is. lost.1.settles d s content only (moved.1.settles d s content only is);
    standing = λ d s content index only is. lost.1.standing d s content index only (moved.1.standing d s content index only is);
    reading = λ node s content asks is only reads. lost.1.reading node s content asks is only (moved.1.reading node s content asks is only reads);
  }

  labels : LabelsStand (st.made store_is) y
  labels = labels_keep (st.made store_is) x y register_took.sizes (same_labels x y register_took.labels) stands.at.labels

  lives : (session end : ℕ) → Contains c.owners.leases (session, end) → c.owners.told.greatest ≤ end + 500 → LivesIn (last c.register.chain) session
  lives session end has late = subst (λ (chain : Chain). LivesIn (last chain) session) stands.at.pasts.owners_chain (laws.lives owners_are c.owners session end stands.at.parts.owners_keep has late)

  alone : (one other block : ℕ) (hold : Hold) → LivesIn (last c.register.chain) one → HasRow (last c.register.chain) other → c.owners.holding one block ≡ Some hold → oldest c.register.chain ≤ other
  alone one other block hold live has holds = subst (λ (chain : Chain). oldest chain ≤ other) stands.at.pasts.owners_chain
      (laws.alone owners_are c.owners one other block hold stands.at.parts.owners_keep
      (subst (λ (chain : Chain). LivesIn (last chain) one) (sym stands.at.pasts.owners_chain) live) (subst (λ (chain : Chain). HasRow (last chain) other) (sym stands.at.pasts.owners_chain) has) holds)

  told : (other one : ℕ) → who ≢ Node other → own_up clocks.down (o.own owners_are) other ≡ Some one → (g.knows register_heard (Node other)).index ≤ c.store.told.knew (Node other)
  told other one differ own = subst (λ (s : GlobalState). s.index ≤ c.store.told.knew (Node other)) (sym (register_took.others.others (Node other) (λ e. differ (sym e)))) (stands.told other one own)

  -- nothing was decided
  still : decides.chain ≡ c.register.chain → StandsBut g o st Stands Step register_heard owners_are store_is y who (letters ++ heard_box) clocks machines (lettered c (letters ++ heard_box)) tree
  still same = record {
    at = tightened g o st Stands Step register_heard owners_are store_is y (letters ++ heard_box) clocks machines (lettered c (letters ++ heard_box)) tree
        (subst (λ (chain : Chain). g.keeps register_heard y (record c.register { letters = letters ++ heard_box; chain = chain })) same decides.holds)
        (decided.still_at g o st Stands Step register_is register_heard owners_are store_is x y (letters ++ box) (letters ++ heard_box) clocks machines c tree stands allowed legal register_took.rises owners_lose lost.0 goes labels lives alone);
    about = decided.still_about g o st Stands Step register_is register_heard owners_are store_is x y (letters ++ box) (letters ++ heard_box) clocks machines c tree stands allowed legal register_took.rises owners_lose lost.0 goes labels lives alone;
    recovering = decided.still_recovering g o st Stands Step register_is register_heard owners_are store_is x y (letters ++ box) (letters ++ heard_box) clocks machines c tree stands allowed legal register_took.rises owners_lose lost.0 goes labels lives alone;
    single = stands.single;
    told = told;
    given = stands.given;
  }

  -- a change was
  more : (decision : Change) → Contains c.register.proposed decision → IsLegal (last c.register.chain) decision → decides.chain ≡ grown c.register.chain decision
      → StandsBut g o st Stands Step register_heard owners_are store_is y who (letters ++ heard_box) clocks machines (lettered (grown_course c decision) (letters ++ heard_box)) tree
  more decision proposed law is = record {
    at = tightened g o st Stands Step register_heard owners_are store_is y (letters ++ heard_box) clocks machines (lettered (grown_course c decision) (letters ++ heard_box)) tree
        (subst (λ (chain : Chain). g.keeps register_heard y (record c.register { letters = letters ++ heard_box; chain = chain })) is decides.holds)
        (decided.grown_at g o st Stands Step register_is register_heard owners_are store_is x y (letters ++ box) (letters ++ heard_box) clocks machines c tree stands allowed legal register_took.rises owners_lose lost.0 goes labels lives alone
        decision proposed law (laws.owners_grow owners_are) (laws.apart owners_are) (laws.stores_grow store_is y));
    about = decided.grown_about g o st Stands Step register_is register_heard owners_are store_is x y (letters ++ box) (letters ++ heard_box) clocks machines c tree stands allowed legal register_took.rises owners_lose lost.0 goes labels lives alone
        decision proposed law (laws.owners_grow owners_are) (laws.apart owners_are) (laws.stores_grow store_is y);
    recovering = decided.grown_recovering g o st Stands Step register_is register_heard owners_are store_is x y (letters ++ box) (letters ++ heard_box) clocks machines c tree stands allowed legal register_took.rises owners_lose lost.0 goes labels lives alone
        decision proposed law (laws.owners_grow owners_are) (laws.apart owners_are) (laws.stores_grow store_is y);
    single = stands.single;
    told = told;
    given = decided.grown_given g o st Stands Step register_is register_heard owners_are store_is x y (letters ++ box) (letters ++ heard_box) clocks machines c tree stands allowed legal register_took.rises owners_lose lost.0 goes labels lives alone
        decision proposed law (laws.owners_grow owners_are) (laws.apart owners_are) (laws.stores_grow store_is y);
  }

  pub registered : (later : Course) × GrowsBy c.register.proposed c.register.chain later.register.chain
      × StandsBut g o st Stands Step register_heard owners_are store_is y who (letters ++ heard_box) clocks machines (lettered later (letters ++ heard_box)) tree × SameVolume c later × IsLast (g.knows register_heard who) c.register.chain later.register.chain
  registered = ⊎_elim
      (λ same. (c, inl refl, still same, same_volume c, inl refl))
      (λ (one : (decision : Change) × Contains c.register.proposed decision × IsLegal (last c.register.chain) decision × (decides.chain ≡ grown c.register.chain decision)).
      (grown_course c one.0, inr (one.0, one.1, one.2, refl), more one.0 one.1 one.2 one.3, record { before = refl; logs = refl; slots = refl; truth = refl; doubts = refl }, told_of one.0 one.3))
      decides.grows
    where
      told_of : (decision : Change) → decides.chain ≡ grown c.register.chain decision → IsLast (g.knows register_heard who) c.register.chain (grown c.register.chain decision)
      told_of decision is = ⊎_elim (λ same. inl (sym is ∙ same)) (λ known. inr (known ∙ ap (λ (chain : Chain). last chain) is)) decides.told
