-- What the clauses of a store's write, and the laws of register and owners, come to where a node's session is live by its lease.
use Rattle.std.proofs.Common.{◌≡◌, ◌≢◌, ◌∙◌, ℕ, ◌+◌, ◌<◌, ◌≤◌, false, List, ◌∷◌, ◌++◌, Contains, None, Some, refl, sym, subst, arith}
use Rattle.bx_base.specs.declared.names.Actor.TheVariants.{Node}
use Rattle.bx_disk.specs.Disks.{Disks}
use Rattle.bx_facts.specs.declared.register.Register as register
use Rattle.bx_facts.specs.declared.store.Store as store
use Rattle.bx_facts.specs.Chains.{AreLegal, Chain, HasRow, IsPlace, LivesIn, last, oldest}
use Rattle.bx_facts.specs.Holds.{Hold, OwnersPast, leased}
use Rattle.bx_facts.specs.Inputs.{AreAmong, IsOwners, IsRegisters, IsStores, SendsOnly}
use Rattle.bx_facts.specs.Pasts.{RegisterPast}
use Rattle.bx_facts.specs.Writes.{AreRuns, GoesOn, MayWrite, Sent, StorePast, store_with, without_session, writing}
use Rattle.bx_facts.proofs.Following.{none_new}
use Rattle.bx_facts.proofs.Lists.{front}
use Rattle.bx_global.specs.Allowed.{IsAllowed}
use Rattle.bx_global.specs.declared.state.GlobalState.{GlobalState}
use Rattle.bx_node_events.proofs.Leased.{leased_course}
use Rattle.bx_node_events.proofs.Quieted.{none_sent, quieted}
use Rattle.bx_node_events.proofs.Working.{IsHanded, IsSending, store_sent}
use Rattle.bx_node_machines.specs.Machines.{MachineView}
use Rattle.bx_node_machines.specs.Nodes.{NodesStand}
use Rattle.bx_facts.specs.declared.owners.Owners as owners
use Rattle.bx_post.specs.declared.packets.Letter.{Letter}
use Rattle.bx_views.specs.Attempts.{Deed}
use Rattle.bx_views.specs.Truths.{Hints, Truth}
use Rattle.bx_world_chains.specs.Entitled.{AreAllowed}
use Rattle.bx_world_chains.proofs.Chains.{last_place}
use Rattle.bx_world_standing.specs.Parts.{Clocks}
use Rattle.bx_world_standing.specs.Standing.{Course}
use Rattle.bx_world_stays.proofs.Drops.{dropped_course}

-- The laws of a register, of owners and of a store, of which a write makes use.
pub record RegisterLaws {G : Type 0} (g : register.Ghosts G) (register_is : G) : Type 0 where
  pub legal : (x : Disks) (past : RegisterPast) → g.keeps register_is x past → AreLegal past.chain.first past.chain.changes
  pub allowed : (x : Disks) (past : RegisterPast) (s : GlobalState) → g.keeps register_is x past → IsPlace past.chain s → IsAllowed s
  pub loses : (x : Disks) (past : RegisterPast) (letters : List Letter) → g.keeps register_is x past → AreAmong IsRegisters letters past.letters → g.keeps register_is x (record past { letters = letters })

pub record OwnersLaws {O : Type 0} (o : owners.Ghosts O) (owners_are : O) : Type 0 where
  pub leases : (past : OwnersPast) (node session end : ℕ) → o.keeps owners_are past → o.own owners_are node ≡ Some session → o.end_of owners_are node ≡ Some end → o.keeps owners_are (leased past session end)
  pub lives : (past : OwnersPast) (session end : ℕ) → o.keeps owners_are past → Contains past.leases (session, end) → past.told.greatest ≤ end + 500 → LivesIn (last past.told.chain) session
  pub alone : (past : OwnersPast) (session other block : ℕ) (hold : Hold) → o.keeps owners_are past → LivesIn (last past.told.chain) session → HasRow (last past.told.chain) other → past.holding session block ≡ Some hold → oldest past.told.chain ≤ other
  pub opened : (past : OwnersPast) (node session : ℕ) → o.keeps owners_are past → o.own owners_are node ≡ Some session → session < (last past.told.chain).next_session
  pub loses : (past : OwnersPast) (letters : List Letter) → o.keeps owners_are past → AreAmong IsOwners letters past.told.letters → o.keeps owners_are (record past { told = record past.told { letters = letters } })

pub record StoreLaws {S : Type 0} (st : store.Ghosts S) (store_is : S) : Type 0 where
  pub nothing_out : (x : Disks) (past : StorePast) (node session : ℕ) → st.keeps store_is x past → st.own store_is node ≡ Some session → st.out_of store_is node ≡ None
      → st.keeps store_is x (without_session past session)
      × GoesOn past.writes past.told.greatest (st.asked store_is) (st.settled store_is x past) (st.settled store_is x (without_session past session)) (st.will_read store_is x past) (st.will_read store_is x (without_session past session))
      (st.stands store_is x past) (st.stands store_is x (without_session past session))

-- What a store's clauses say of a write of a node's session that it took.
pub record IsTaken {S : Type 0} (st : store.Ghosts S) (old new : S) (node : ℕ) (box box_then : List Letter) (write : Sent) : Type 0 where
  pub fits : AreRuns (st.made old) write.runs
  pub keeps : (x : Disks) (past : StorePast) → st.keeps old x (store_with past box) → past.told.down (Node node) ≡ false → MayWrite past.writes past.told.greatest (last past.told.chain) write → st.keeps new x (store_with (writing past write) box_then)
  pub goes_on : (x : Disks) (past : StorePast) → st.keeps old x (store_with past box) → past.told.down (Node node) ≡ false → MayWrite past.writes past.told.greatest (last past.told.chain) write
      → GoesOn (write ∷ past.writes) past.told.greatest (st.asked old) (st.settled old x (store_with past box)) (st.settled new x (store_with (writing past write) box_then)) (st.will_read old x (store_with past box))
      (st.will_read new x (store_with (writing past write) box_then)) (st.stands old x (store_with past box)) (st.stands new x (store_with (writing past write) box_then))
  pub is_out : st.out_of new node ≡ Some write
  pub others : (other : ℕ) → other ≢ node → st.out_of new other ≡ st.out_of old other
  pub own : (other : ℕ) → st.own new other ≡ st.own old other
  pub asked : (other : ℕ) → st.asked new other ≡ st.asked old other
  pub sent : SendsOnly IsStores box box_then
  pub made : st.made new ≡ st.made old

pub not_registers : (letter : Letter) → IsStores letter → IsRegisters letter → ⊥
not_registers letter one other = let a = one.least in let b = other.most in omega (arith, a, b)

pub not_owners : (letter : Letter) → IsStores letter → IsOwners letter → ⊥
not_owners letter one other = let a = one.least in let b = other.most in omega (arith, a, b)

module _ {G O S T : Type 0} (g : register.Ghosts G) (o : owners.Ghosts O) (st : store.Ghosts S) (Stands : Truth → Hints → T → Type 0) (Step : T → Deed → T → Type 0)
    (register_is : G) (owners_are : O) (old new : S) (x : Disks) (letters box box_then : List Letter) (clocks : Clocks) (machines : List MachineView) (c : Course) (tree : T)
    (node session end : ℕ)
    (stands : NodesStand g o st Stands Step register_is owners_are old x (letters ++ box) clocks machines c tree)
    (up : clocks.down (Node node) ≡ false) (own : o.own owners_are node ≡ Some session) (ends : o.end_of owners_are node ≡ Some end)
    (register_laws : RegisterLaws g register_is) (owners_laws : OwnersLaws o owners_are) where
  chain_is : c.owners.told.chain ≡ c.register.chain
  chain_is = stands.at.pasts.owners_chain

  pub keeps_leased : o.keeps owners_are (leased c.owners session end)
  keeps_leased = owners_laws.leases c.owners node session end stands.at.parts.owners_keep own ends

  alone_on : (one other block : ℕ) (hold : Hold) → LivesIn (last c.register.chain) one → HasRow (last c.register.chain) other → c.owners.holding one block ≡ Some hold → oldest c.register.chain ≤ other
  alone_on one other block hold lives has holds = subst (λ (chain : Chain). oldest chain ≤ other) chain_is
      (owners_laws.alone c.owners one other block hold stands.at.parts.owners_keep
      (subst (λ (chain : Chain). LivesIn (last chain) one) (sym chain_is) lives) (subst (λ (chain : Chain). HasRow (last chain) other) (sym chain_is) has) holds)

  pub is_allowed : IsAllowed (last c.register.chain)
  is_allowed = register_laws.allowed x c.register (last c.register.chain) stands.at.parts.register_keeps (last_place c.register.chain)

  -- Where none of its writes is out, none may be taken any more, and the nodes stand without them.
  module _ (none_out : st.out_of old node ≡ None) (store_laws : StoreLaws st old) where
    over : st.keeps old x (without_session c.store session)
        × GoesOn c.store.writes c.store.told.greatest (st.asked old) (st.settled old x c.store) (st.settled old x (without_session c.store session)) (st.will_read old x c.store) (st.will_read old x (without_session c.store session))
        (st.stands old x c.store) (st.stands old x (without_session c.store session))
    over = store_laws.nothing_out x c.store node session stands.at.parts.store_keeps (sym (stands.at.parts.own node up) ∙ own) none_out

    all_allowed : AreAllowed c.register.chain
    all_allowed = record { each = λ s place. register_laws.allowed x c.register s stands.at.parts.register_keeps place }

    lives_on : (other its_end : ℕ) → Contains c.owners.leases (other, its_end) → c.owners.told.greatest ≤ its_end + 500 → LivesIn (last c.register.chain) other
    lives_on other its_end has late = subst (λ (chain : Chain). LivesIn (last chain) other) chain_is (owners_laws.lives c.owners other its_end stands.at.parts.owners_keep has late)

    pub quiet : NodesStand g o st Stands Step register_is owners_are old x (letters ++ box) clocks machines (dropped_course c (without_session c.store session).writes) tree
    quiet = quieted g o st Stands Step register_is owners_are old x (letters ++ box) clocks machines c tree session stands all_allowed (register_laws.legal x c.register stands.at.parts.register_keeps) over.0 over.1 lives_on alone_on

    pub quiet_sent : (write : Sent) → Contains (without_session c.store session).writes write → write.session ≢ session
    quiet_sent = none_sent g o st Stands Step register_is owners_are old x (letters ++ box) clocks machines c tree session stands all_allowed (register_laws.legal x c.register stands.at.parts.register_keeps) over.0 over.1 lives_on alone_on

  module _ (write : Sent) (whose : write.session ≡ session) (until : write.until ≡ end) (taken : IsTaken st old new node box box_then write) where
    -- the store's past as it was before the node's turn
    abbrev past : StorePast
    past = record c.store { told = record c.store.told { letters = letters } }

    same_past : store_with (record c.store { told = record c.store.told { letters = letters } }) box ≡ c.store
    same_past = λ i. record c.store { told = record c.store.told { letters = sym stands.at.pasts.store_letters i } }

    kept : st.keeps old x (store_with (record c.store { told = record c.store.told { letters = letters } }) box)
    kept = subst (λ (p : StorePast). st.keeps old x p) (sym same_past) stands.at.parts.store_keeps

    is_up : c.store.told.down (Node node) ≡ false
    is_up = stands.at.pasts.store_down (Node node) ∙ up

    by_chain : MayWrite c.store.writes c.store.told.greatest (last c.register.chain) write → MayWrite c.store.writes c.store.told.greatest (last c.store.told.chain) write
    by_chain may = subst (λ (chain : Chain). MayWrite c.store.writes c.store.told.greatest (last chain) write) (sym stands.at.pasts.store_chain) may

    goes : MayWrite c.store.writes c.store.told.greatest (last c.register.chain) write
        → GoesOn (write ∷ c.store.writes) c.store.told.greatest (st.asked old) (st.settled old x (store_with (record c.store { told = record c.store.told { letters = letters } }) box)) (st.settled new x (store_sent c.store (letters ++ box_then) write))
        (st.will_read old x (store_with (record c.store { told = record c.store.told { letters = letters } }) box)) (st.will_read new x (store_sent c.store (letters ++ box_then) write))
        (st.stands old x (store_with (record c.store { told = record c.store.told { letters = letters } }) box)) (st.stands new x (store_sent c.store (letters ++ box_then) write))
    goes may = taken.goes_on x (record c.store { told = record c.store.told { letters = letters } }) kept is_up (by_chain may)

    handed : MayWrite c.store.writes c.store.told.greatest (last c.register.chain) write → IsHanded st old new x c.store (letters ++ box_then) node write
    handed may = record {
      keeps = taken.keeps x (record c.store { told = record c.store.told { letters = letters } }) kept is_up (by_chain may);
      made = taken.made;
      own = taken.own;
      others = taken.others;
      asked = taken.asked;
      is_out = taken.is_out;
      stands = λ d s content index only was. (goes may).standing d s content index only (subst (λ (p : StorePast). st.stands old x p d s content index) (sym same_past) was);
      reads = λ reader s content asks asked only was.
          (goes may).reading reader s content asks asked only
          (subst (λ (p : StorePast). st.will_read old x p reader s content) (sym same_past) was);
    }

    -- So the write is sent.
    pub is_sending : IsSending g o st register_is owners_are old new x (leased_course c session end) (letters ++ box_then) node session write
    is_sending = record {
      whose = whose;
      once = taken.fits.once;
      handed = handed;
      relied = λ other its_end has late. subst (λ (chain : Chain). LivesIn (last chain) other) chain_is
          (owners_laws.lives (leased c.owners session end) other its_end keeps_leased has (let low = stands.at.pasts.owners_greatest in omega (arith, low, late)));
      register_keeps = register_laws.loses x c.register (letters ++ box_then) stands.at.parts.register_keeps
          (subst (λ (l : List Letter). AreAmong IsRegisters (letters ++ box_then) l) (sym stands.at.pasts.letters) (none_new IsRegisters IsStores not_registers letters box box_then taken.sent));
      owners_keep = owners_laws.loses (leased c.owners session end) (letters ++ box_then) keeps_leased
          (subst (λ (l : List Letter). AreAmong IsOwners (letters ++ box_then) l) (sym stands.at.pasts.owners_letters) (none_new IsOwners IsStores not_owners letters box box_then taken.sent));
      end = (end, subst (λ (n : ℕ). Contains ((session, end) ∷ c.owners.leases) (n, end)) refl (front (session, end) c.owners.leases), let e = until in omega (arith, e));
      opened = subst (λ (chain : Chain). session < (last chain).next_session) chain_is (owners_laws.opened c.owners node session stands.at.parts.owners_keep own);
      alone = alone_on;
    }
