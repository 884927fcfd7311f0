-- A node asks for the home of a block: by the promises of owners, store and register there is a later course.
use Rattle.std.proofs.Common.{◌≡◌, ◌≢◌, ℕ, ◌≤◌, ◌<◌, ◌+◌, ◌++◌, max, false, List, Option, Some, None, refl, sym, ◌∙◌, ap, subst, arith}
use Rattle.std.specs.Prelude.{slice_get}
use Rattle.bx_base.specs.declared.names.Actor.TheVariants.{Node}
use Rattle.bx_disk.specs.Disks.{Disks}
use Rattle.bx_facts.specs.declared.register.Register as register
use Rattle.bx_facts.specs.declared.store.Store as store
use Rattle.bx_facts.specs.Chains.{Chain, HasRow, IsPlace, LivesIn, last, oldest, opened_at}
use Rattle.bx_facts.specs.Holds.{Hold, OwnersPast, hold_of}
use Rattle.bx_facts.specs.Inputs.{AreAmong, IsOwners, IsRegisters, IsStores, SendsOnly}
use Rattle.bx_facts.specs.Pasts.{RegisterPast}
use Rattle.bx_facts.specs.Writes.{GoesOn, IsOnly, StorePast, store_with}
use Rattle.bx_global.specs.Allowed.{IsAllowed}
use Rattle.bx_global.specs.declared.state.GlobalState.{GlobalState}
use Rattle.bx_node_cache.specs.Kept.{kept_in, shown_of}
use Rattle.bx_node_cache.specs.declared.cache.Kept.{Kept}
use Rattle.bx_node_events.proofs.Asked.{asked, with_letters}
use Rattle.bx_node_machines.specs.Machines.{MachineView, home_of}
use Rattle.bx_node_machines.specs.Nodes.{NodesStand}
use Rattle.bx_nodes.specs.Asks.{Later, MayRead}
use Rattle.bx_node_steps.specs.Seen.{stage_of, view_of}
use Rattle.bx_node_steps.specs.declared.machine.Fetch.TheVariants as fetches
use Rattle.bx_node_steps.specs.declared.machine.Machine.{Machine}
use Rattle.bx_node_steps.specs.declared.machine.Stage.TheVariants.{Idle}
use Rattle.bx_nodes.proofs.Letters.{stores_send_no_owners, stores_send_no_registers}
use Rattle.bx_facts.specs.declared.owners.Owners as owners
use Rattle.bx_places.specs.Places.{IsBlock, block_place}
use Rattle.bx_post.specs.declared.packets.Letter.{Letter}
use Rattle.bx_views.specs.Attempts.{Deed}
use Rattle.bx_views.specs.Truths.{Hints, Truth}
use Rattle.bx_world_chains.proofs.Rows.{lives_row}
use Rattle.bx_world_standing.specs.Parts.{Clocks}
use Rattle.bx_world_standing.specs.Standing.{Course}
use Rattle.bx_world_standing.proofs.Owns.{own_is}

module _ {G O S T : Type 0} (g : register.Ghosts G) (o : owners.Ghosts O) (st : store.Ghosts S) (Stands : Truth → Hints → T → Type 0) (Step : T → Deed → T → Type 0)
    (register_is : G) (owners_are : O) (old new : S) (x : Disks) (letters out_old out_new : List Letter) (clocks : Clocks) (machines later : List MachineView) (c : Course) (tree : T)
    (node session at : ℕ) (before : Machine) (hold : Hold)
    (stands : NodesStand g o st Stands Step register_is owners_are old x (letters ++ out_old) clocks machines c tree)
    (up : clocks.down (Node node) ≡ false) (own : o.own owners_are node ≡ Some session) (live : LivesIn (last c.register.chain) session)
    (there : slice_get machines node ≡ Some (view_of before)) (mark : before.session ≡ Some session) (rests : before.stage ≡ Idle)
    (then_there : slice_get later node ≡ Some (view_of (record before { fetch = fetches.Block at hold.0 }))) (others : (other : ℕ) → other ≢ node → slice_get later other ≡ slice_get machines other)
    (is : IsBlock (st.made old).areas at) (holds : o.hold owners_are node at ≡ Some hold) (may : MayRead before hold.1 (g.knows register_is (Node node)).index) (none : kept_in before.cache.kept at ≡ None)
    (sends : SendsOnly IsStores out_old out_new)
    (register_loses : (past : RegisterPast) (some : List Letter) → g.keeps register_is x past → AreAmong IsRegisters some past.letters → g.keeps register_is x (record past { letters = some }))
    (owners_lose : (past : OwnersPast) (some : List Letter) → o.keeps owners_are past → AreAmong IsOwners some past.told.letters → o.keeps owners_are (record past { told = record past.told { letters = some } }))
    (register_allows : (past : RegisterPast) (s : GlobalState) → g.keeps register_is x past → IsPlace past.chain s → IsAllowed s)
    (owners_hold : (past : OwnersPast) (one block : ℕ) → o.keeps owners_are past → o.hold owners_are one block ≡ hold_of (o.own owners_are one) past.holding block)
    (owners_reach : (past : OwnersPast) (one block : ℕ) (its : Hold) → o.keeps owners_are past → LivesIn (last past.told.chain) one → past.holding one block ≡ Some its → past.floor block ≤ max its.1 (opened_at past.told.chain one))
    (owners_alone : (past : OwnersPast) (one other block : ℕ) (its : Hold) → o.keeps owners_are past → LivesIn (last past.told.chain) one → HasRow (last past.told.chain) other → past.holding one block ≡ Some its → oldest past.told.chain ≤ other)
    (same : (other : ℕ) → (st.own new other ≡ st.own old other) × (st.out_of new other ≡ st.out_of old other)) (made : st.made new ≡ st.made old)
    (elsewhere : (reader : ℕ) → reader ≢ node → st.asked new reader ≡ st.asked old reader) (asks : st.asked new node ≡ Some (home_of (st.made old).devices at))
    (keeps : (past : StorePast) → st.keeps old x (store_with past out_old) → past.told.down (Node node) ≡ false → st.keeps new x (store_with past out_new))
    (goes : (past : StorePast) → st.keeps old x (store_with past out_old) → past.told.down (Node node) ≡ false
    → GoesOn past.writes past.told.greatest (st.asked old) (st.settled old x (store_with past out_old)) (st.settled new x (store_with past out_new)) (st.will_read old x (store_with past out_old)) (st.will_read new x (store_with past out_new))
    (st.stands old x (store_with past out_old)) (st.stands new x (store_with past out_new)))
    (promise : (past : StorePast) (sector : ℕ) (content : List ℕ) (index : ℕ) → st.keeps old x (store_with past out_old) → past.told.down (Node node) ≡ false → (block_place at (st.made old).devices).1 ≤ sector → sector < (block_place at (st.made old).devices).1 + 9
    → IsOnly past.writes past.told.greatest (block_place at (st.made old).devices).0 sector content → st.stands old x (store_with past out_old) (block_place at (st.made old).devices).0 sector content index
    → index ≤ past.told.knew (Node node) → st.will_read new x (store_with past out_new) node sector content) where
  -- the past without what is in the box
  abbrev past : StorePast
  past = record c.store { told = record c.store.told { letters = letters } }

  same_past : store_with past out_old ≡ c.store
  same_past = λ i. record c.store { told = record c.store.told { letters = sym stands.at.pasts.store_letters i } }

  kept : st.keeps old x (store_with past out_old)
  kept = subst (λ (p : StorePast). st.keeps old x p) (sym same_past) stands.at.parts.store_keeps

  is_up : past.told.down (Node node) ≡ false
  is_up = stands.at.pasts.store_down (Node node) ∙ up

  holds_it : c.owners.holding session at ≡ Some hold
  holds_it = sym (owners_hold c.owners node at stands.at.parts.owners_keep ∙ ap (λ (s : Option ℕ). hold_of s c.owners.holding at) own) ∙ holds

  in_owners : (n : ℕ) → LivesIn (last c.register.chain) n → LivesIn (last c.owners.told.chain) n
  in_owners n lives = subst (λ (chain : Chain). LivesIn (last chain) n) (sym stands.at.pasts.owners_chain) lives

  pub reads : Later (λ course. NodesStand g o st Stands Step register_is owners_are new x (letters ++ out_new) clocks later course tree) c
  reads =
      let row = lives_row (last c.register.chain) session live in
      let knows = stands.told node session (own_is clocks.down (o.own owners_are) node session up own) in
      let known = may.known in
      record {
        later = with_letters c (letters ++ out_new);
        chain = refl;
        knew = refl;
        logs = refl;
        works = record { slots = refl; doubts = refl };
        stands = asked g o st Stands Step register_is owners_are old new x (letters ++ out_old) (letters ++ out_new) clocks machines later c tree node session at row.0 (view_of before) hold stands up own
            (record { each = λ s place. register_allows c.register s stands.at.parts.register_keeps place }) row.1 row.2 there mark (ap stage_of rests) then_there others
            (register_loses c.register (letters ++ out_new) stands.at.parts.register_keeps (stores_send_no_registers letters out_old out_new c.register.letters stands.at.pasts.letters sends))
            (owners_lose c.owners (letters ++ out_new) stands.at.parts.owners_keep (stores_send_no_owners letters out_old out_new c.owners.told.letters stands.at.pasts.owners_letters sends))
            (keeps past kept is_up) made same elsewhere
            (subst (λ (p : StorePast). GoesOn c.store.writes c.store.told.greatest (st.asked old) (st.settled old x p) (st.settled new x (store_with past out_new)) (st.will_read old x p) (st.will_read new x (store_with past out_new))
            (st.stands old x p) (st.stands new x (store_with past out_new))) same_past (goes past kept is_up))
            asks
            (λ sector content index from to only stood low. promise past sector content index kept is_up from to only (subst (λ (p : StorePast). st.stands old x p (block_place at (st.made old).devices).0 sector content index) (sym same_past) stood) low)
            is holds_it (omega (arith, known, knows)) (λ way. ap (λ (k : Option Kept). shown_of k way) none)
            (subst (λ (chain : Chain). c.owners.floor at ≤ max hold.1 (opened_at chain session)) stands.at.pasts.owners_chain (owners_reach c.owners session at hold stands.at.parts.owners_keep (in_owners session live) holds_it))
            (λ other has. subst (λ (chain : Chain). oldest chain ≤ other) stands.at.pasts.owners_chain
            (owners_alone c.owners session other at hold stands.at.parts.owners_keep (in_owners session live) (subst (λ (chain : Chain). HasRow (last chain) other) (sym stands.at.pasts.owners_chain) has) holds_it));
      }
