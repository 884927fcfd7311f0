-- What the clauses of the three calls `take`, and of `propose`, come to where a machine that is up is handed an input: the register first, owners and store then, with
-- the state that it knows, and last the register is handed the change that one of these handed back. The nodes stand.
use Rattle.std.proofs.Common.{◌≡◌, ◌≢◌, ◌⊎◌, ⊎_elim, inl, inr, ◌∙◌, ℕ, ◌<◌, ◌≤◌, false, List, ◌∷◌, ◌++◌, Option, Some, None, IfSome, refl, sym, ap, subst, arith}
use Rattle.std.specs.Option.{option_or}
use Rattle.std.specs.Prelude.{slice_get}
use Rattle.bx_base.specs.declared.names.Actor.{Actor}
use Rattle.bx_base.specs.declared.names.Actor.TheVariants.{Node}
use Rattle.bx_disk.specs.Disks.{Disks}
use Rattle.bx_facts.specs.declared.input.Input.{Input}
use Rattle.bx_facts.specs.declared.input.Input.TheVariants.{Packet, Synced, Tick}
use Rattle.bx_facts.specs.declared.register.Register as register
use Rattle.bx_facts.specs.declared.store.Store as store
use Rattle.bx_facts.specs.Chains.{Chain, GrowsBy, HasRow, IsOwnersKind, IsPlace, IsStoresKind, LivesIn, last, oldest, session_by, with_change}
use Rattle.bx_facts.specs.Disks.{SameLabels, SameReplicas}
use Rattle.bx_facts.specs.Holds.{Holding, KeepsHolds, OwnersPast, owners_heard, owners_with}
use Rattle.bx_facts.specs.Inputs.{IsComing, IsOwners, IsRegisters, IsSteady, IsStores, SendsOnly}
use Rattle.bx_facts.specs.Pasts.{MayTake, RegisterPast, register_with}
use Rattle.bx_facts.specs.Writes.{GoesOn, IsDone, Sent, StorePast, store_heard, store_with}
use Rattle.bx_facts.proofs.Following.{none_new}
use Rattle.bx_global.specs.declared.change.Change.{Change}
use Rattle.bx_global.specs.declared.change.Change.TheVariants.{Claim, Close, Expire, Open, Renew, Shift, Take}
use Rattle.bx_global.specs.declared.state.GlobalState.{GlobalState}
use Rattle.bx_node_events.specs.Works.{KeepsWorks}
use Rattle.bx_node_events.proofs.Clauses.{owners_taken, store_taken}
use Rattle.bx_node_events.proofs.Decided.{lettered}
use Rattle.bx_node_events.proofs.Handing.{not_owners, not_registers}
use Rattle.bx_node_events.proofs.Registered.{HandedLaws, IsLast, RegisterTook, among_both, kept_by, owners_not_registers, owners_not_stores, registered, registers_not_owners, registers_not_stores, same_lengths}
use Rattle.bx_node_events.proofs.Taken as taken
use Rattle.bx_node_events.proofs.Taken.{TakesOwners, TakesStore, loose, loosen}
use Rattle.bx_node_machines.specs.Machines.{AreAbout, MachineView}
use Rattle.bx_node_machines.specs.Recoveries.{AreRecovering}
use Rattle.bx_node_machines.specs.Nodes.{IsOfNode, NodesStand, known_of, scene_of}
use Rattle.bx_facts.specs.declared.owners.Owners as owners
use Rattle.bx_post.specs.declared.packets.Letter.{Letter}
use Rattle.bx_views.specs.Attempts.{Deed}
use Rattle.bx_views.specs.Truths.{Hints, Truth}
use Rattle.bx_world_standing.specs.Parts.{Clocks}
use Rattle.bx_world_standing.specs.Standing.{Course, StandsAt, SureOf, own_up}
use Rattle.bx_world_stays.proofs.Heard.{IsProposal, heard_clocks}
use Rattle.bx_world_stays.proofs.Labels.{labels_keep, same_labels}

-- What owners' clauses say of it.
pub record OwnersTook {O : Type 0} (o : owners.Ghosts O) (old new : O) (known : GlobalState) (who : Actor) (input : Input) (change : Option Change) (box box_then : List Letter) : Type 0 where
  pub keeps : (past : OwnersPast) → o.keeps old (owners_with past box) → MayTake (owners_with past box).told known who input → Holding (KeepsHolds past.holding) (o.keeps new) (owners_with (owners_heard past who known.index input change) box_then)
  pub session : (past : OwnersPast) (node : ℕ) → o.keeps old (owners_with past box) → MayTake (owners_with past box).told known who input → who ≡ Node node → o.own new node ≡ session_by o.by_boot known node (past.told.boots who)
  pub others : (node : ℕ) → who ≢ Node node → o.own new node ≡ o.own old node
  pub kind : IfSome change IsOwnersKind
  pub sent : SendsOnly IsOwners box box_then

-- What a store's clauses say of it.
pub record StoreTook {S : Type 0} (st : store.Ghosts S) (old new : S) (y z : Disks) (known : GlobalState) (who : Actor) (input : Input) (change : Option Change) (box box_then : List Letter) : Type 0 where
  pub keeps : (past : StorePast) → st.keeps old y (store_with past box) → MayTake (store_with past box).told known who input → st.keeps new z (store_with (store_heard past who known.index input change) box_then)
  pub goes_on : (past : StorePast) → st.keeps old y (store_with past box) → MayTake (store_with past box).told known who input
      → GoesOn past.writes past.told.greatest (st.asked old) (st.settled old y (store_with past box)) (st.settled new z (store_with (store_heard past who known.index input change) box_then))
      (st.will_read old y (store_with past box)) (st.will_read new z (store_with (store_heard past who known.index input change) box_then)) (st.stands old y (store_with past box)) (st.stands new z (store_with (store_heard past who known.index input change) box_then))
  pub done : (past : StorePast) (node : ℕ) (write : Sent) → st.keeps old y (store_with past box) → MayTake (store_with past box).told known who input → st.out_of old node ≡ Some write → st.out_of new node ≡ None → st.own new node ≡ Some write.session → LivesIn (last past.told.chain) write.session
      → IsDone (st.stands new z (store_with (store_heard past who known.index input change) box_then)) ((store_heard past who known.index input change).told.knew (Node node)) write
  pub session : (past : StorePast) (node : ℕ) → st.keeps old y (store_with past box) → MayTake (store_with past box).told known who input → who ≡ Node node → st.own new node ≡ session_by st.by_boot known node (past.told.boots who)
  pub others : (node : ℕ) → who ≢ Node node → st.own new node ≡ st.own old node
  pub new_session : (node : ℕ) → st.own new node ≢ st.own old node → st.asked new node ≡ None
  pub out : (node : ℕ) → (st.out_of new node ≡ None) ⊎ (st.out_of new node ≡ st.out_of old node)
  pub asked : (node : ℕ) → (st.own new node ≢ st.own old node) ⊎ (st.asked new node ≡ st.asked old node)
  pub kind : IfSome change IsStoresKind
  pub sent : SendsOnly IsStores box box_then
  pub made : st.made new ≡ st.made old
  pub sizes : z.sizes ≡ y.sizes
  pub replicas : SameReplicas y z
  pub labels : SameLabels y z

-- A register was handed a change to propose, where there is one, and proposes it or refuses it.
pub record Offered {G : Type 0} (g : register.Ghosts G) (old new : G) (z : Disks) (who : Actor) (offer proposal : Option Change) (box box_then : List Letter) : Type 0 where
  pub keeps : (past : RegisterPast) → g.keeps old z (register_with past box) → past.down who ≡ false → g.keeps new z (register_with (record past { proposed = with_change proposal past.proposed }) box_then)
  pub is_offered : (change : Change) → proposal ≡ Some change → offer ≡ Some change
  pub knows : (other : Actor) → g.knows new other ≡ g.knows old other
  pub sent : (past : RegisterPast) → g.keeps old z (register_with past box) → SendsOnly IsRegisters box box_then

-- one offered is one of theirs
is_theirs : (change shift : Option Change) (handed_owners handed_store : List Change) (one : Change) → IfSome change IsOwnersKind → IfSome shift IsStoresKind → option_or change shift ≡ Some one
    → IsProposal (with_change change handed_owners) (with_change shift handed_store) one
is_theirs (Some change) shift handed_owners handed_store one kind other is =
    subst (λ (c : Change). IsProposal (change ∷ handed_owners) (with_change shift handed_store) c) (let e : change ≡ one = cc in e) (owners_kind change kind)
  where
    owners_kind : (c : Change) → IsOwnersKind c → IsProposal (c ∷ handed_owners) (with_change shift handed_store) c
    owners_kind (Renew by boot reading) k = record { owners_own = (0, omega arith, refl); stores_own = tt; no_close = λ gone by_it e. cc }
    owners_kind (Take by boot reading) k = record { owners_own = (0, omega arith, refl); stores_own = tt; no_close = λ gone by_it e. cc }
    owners_kind (Open node boot reading) k = record { owners_own = (0, omega arith, refl); stores_own = tt; no_close = λ gone by_it e. cc }
    owners_kind (Expire session term reading) k = record { owners_own = (0, omega arith, refl); stores_own = tt; no_close = λ gone by_it e. cc }
    owners_kind (Claim gone by) k = absurd k
    owners_kind (Close gone by) k = absurd k
    owners_kind (Shift device epoch mode second boot) k = absurd k
is_theirs None None handed_owners handed_store one kind other is = absurd cc
is_theirs None (Some shift) handed_owners handed_store one kind other is =
    subst (λ (c : Change). IsProposal handed_owners (shift ∷ handed_store) c) (let e : shift ≡ one = cc in e) (stores_kind shift other)
  where
    stores_kind : (c : Change) → IsStoresKind c → IsProposal handed_owners (c ∷ handed_store) c
    stores_kind (Shift device epoch mode second boot) k = record { owners_own = tt; stores_own = (0, omega arith, refl); no_close = λ gone by_it e. cc }
    stores_kind (Renew by boot reading) k = absurd k
    stores_kind (Take by boot reading) k = absurd k
    stores_kind (Open node boot reading) k = absurd k
    stores_kind (Expire session term reading) k = absurd k
    stores_kind (Claim gone by) k = absurd k
    stores_kind (Close gone by) k = absurd k

module _ {G O S T : Type 0} (g : register.Ghosts G) (o : owners.Ghosts O) (st : store.Ghosts S) (Stands : Truth → Hints → T → Type 0) (Step : T → Deed → T → Type 0) (laws : HandedLaws g o st)
    (register_heard register_then : G) (owners_are owners_then : O) (store_is store_then : S) (y z : Disks) (letters heard_box tended_box served_box last_box : List Letter) (clocks : Clocks) (machines : List MachineView)
    (who : Actor) (input : Input) (change shift proposal : Option Change)
    (up : clocks.down who ≡ false) (steady : IsSteady clocks.greatest input) (comes : IsComing (letters ++ heard_box) input)
    (owners_took : OwnersTook o owners_are owners_then (g.knows register_heard who) who input change heard_box tended_box)
    (store_took : StoreTook st store_is store_then y z (g.knows register_heard who) who input shift tended_box served_box)
    (offered : Offered g register_heard register_then z who (option_or change shift) proposal served_box last_box) where
  -- Once what was decided is in the chain.
  module _ (c : Course) (tree : T)
      (at : StandsAt (loose g) o st Stands Step register_heard owners_are store_is y (known_of (loose g) o st Stands Step register_heard owners_are store_is y (letters ++ heard_box) clocks machines) (lettered c (letters ++ heard_box)) tree)
      (about : AreAbout (st.made store_is).devices (st.made store_is).areas (SureOf (loose g) o st Stands Step register_heard owners_are store_is y (known_of (loose g) o st Stands Step register_heard owners_are store_is y (letters ++ heard_box) clocks machines) (lettered c (letters ++ heard_box)))
      (st.will_read store_is y (lettered c (letters ++ heard_box)).store) (IsOfNode o.by_boot clocks) (scene_of (loose g) o st Stands Step register_heard owners_are store_is y clocks.down machines (lettered c (letters ++ heard_box))))
      (recovering : AreRecovering (st.made store_is).devices (st.made store_is).areas (SureOf (loose g) o st Stands Step register_heard owners_are store_is y (known_of (loose g) o st Stands Step register_heard owners_are store_is y (letters ++ heard_box) clocks machines) (lettered c (letters ++ heard_box)))
      (st.will_read store_is y (lettered c (letters ++ heard_box)).store) c.register.chain (λ n. c.store.told.knew (Node n)) c.register.proposed (scene_of (loose g) o st Stands Step register_heard owners_are store_is y clocks.down machines (lettered c (letters ++ heard_box))))
      (given : (node session : ℕ) (machine : MachineView) → slice_get machines node ≡ Some machine → machine.session ≡ Some session → session < (last c.register.chain).next_session)
      (register_keeps : g.keeps register_heard y (record c.register { letters = letters ++ heard_box }))
      (told : (other one : ℕ) → own_up clocks.down (o.own owners_are) other ≡ Some one → who ≢ Node other → (g.knows register_heard (Node other)).index ≤ c.store.told.knew (Node other)) where
    place : IsPlace c.register.chain (g.knows register_heard who)
    place = laws.places register_heard y (record c.register { letters = letters ++ heard_box }) who register_keeps

    may_take : MayTake (lettered c (letters ++ heard_box)).store.told (g.knows register_heard who) who input
    may_take = taken.may_store g o st Stands Step register_heard owners_are store_is y (letters ++ heard_box) clocks machines (lettered c (letters ++ heard_box)) tree who input at up place steady comes

    register_served : g.keeps register_heard z (record c.register { letters = letters ++ served_box })
    register_served = laws.registers_lose register_heard z (record c.register { letters = letters ++ heard_box }) (letters ++ served_box)
        (laws.registers_elsewhere register_heard y z (record c.register { letters = letters ++ heard_box }) register_keeps (same_lengths y z store_took.sizes) store_took.replicas store_took.labels)
        (among_both IsRegisters (letters ++ served_box) (letters ++ tended_box) (letters ++ heard_box) (none_new IsRegisters IsOwners owners_not_registers letters heard_box tended_box owners_took.sent)
        (none_new IsRegisters IsStores not_registers letters tended_box served_box store_took.sent))

    sent_last : SendsOnly IsRegisters served_box last_box
    sent_last = offered.sent (record c.register { letters = letters }) register_served

    takes_owners : TakesOwners o owners_are owners_then (lettered c (letters ++ heard_box)).owners (g.knows register_heard who) who input change (letters ++ last_box)
    takes_owners = owners_taken o owners_are owners_then (record c.owners { told = record c.owners.told { letters = letters } }) heard_box tended_box last_box (g.knows register_heard who) who input change
        (λ may. owners_took.keeps (record c.owners { told = record c.owners.told { letters = letters } }) at.parts.owners_keep may)
        (λ node may same. owners_took.session (record c.owners { told = record c.owners.told { letters = letters } }) node at.parts.owners_keep may same)
        owners_took.others (λ one some keeps among. laws.owners_lose owners_then one some keeps among)
        (among_both IsOwners (letters ++ last_box) (letters ++ served_box) (letters ++ tended_box) (none_new IsOwners IsStores not_owners letters tended_box served_box store_took.sent)
        (none_new IsOwners IsRegisters registers_not_owners letters served_box last_box sent_last))

    takes_store : TakesStore st store_is store_then y z (lettered c (letters ++ heard_box)).store (g.knows register_heard who) who input shift (letters ++ last_box)
    takes_store = store_taken st store_is store_then y z (record c.store { told = record c.store.told { letters = letters } }) heard_box tended_box served_box last_box (g.knows register_heard who) who input shift
        at.parts.store_keeps (λ one some keeps among. laws.stores_lose store_is y one some keeps among)
        (none_new IsStores IsOwners owners_not_stores letters heard_box tended_box owners_took.sent) (kept_by IsOwners letters heard_box tended_box owners_took.sent)
        (λ keeps may. store_took.keeps (record c.store { told = record c.store.told { letters = letters } }) keeps may)
        (λ keeps may. store_took.goes_on (record c.store { told = record c.store.told { letters = letters } }) keeps may)
        (λ node write keeps may is none own live. store_took.done (record c.store { told = record c.store.told { letters = letters } }) node write keeps may is none own live)
        (λ node keeps may same. store_took.session (record c.store { told = record c.store.told { letters = letters } }) node keeps may same)
        store_took.others store_took.new_session store_took.out (λ node. ⊎_elim (λ changed. inl (store_took.new_session node changed)) inr (store_took.asked node)) store_took.made
        (λ one some keeps among. laws.stores_lose store_then z one some keeps among)
        (none_new IsStores IsRegisters registers_not_stores letters served_box last_box sent_last)

    register_last : g.keeps register_then z (record c.register { letters = letters ++ last_box; proposed = with_change proposal c.register.proposed })
    register_last = offered.keeps (record c.register { letters = letters }) register_served (at.pasts.down who ∙ up)

    pub finished : (later : Course) × (later.register.chain ≡ c.register.chain) × NodesStand g o st Stands Step register_then owners_then store_then z (letters ++ last_box) (heard_clocks clocks input) machines later tree × (later.logs ≡ c.logs) × KeepsWorks (lettered c (letters ++ heard_box)) later
    finished = taken.takes g o st Stands Step register_heard register_then owners_are owners_then store_is store_then y z (letters ++ heard_box) (letters ++ last_box) clocks machines (lettered c (letters ++ heard_box)) tree
        who input change shift proposal at about recovering given
        (record { each = λ s there. laws.allowed register_heard y (record c.register { letters = letters ++ heard_box }) s register_keeps there })
        (laws.legal register_heard y (record c.register { letters = letters ++ heard_box }) register_keeps)
        up place steady comes takes_owners takes_store register_last offered.knows
        (λ one is. is_theirs change shift c.owners.told.handed c.store.told.handed one owners_took.kind store_took.kind (offered.is_offered one is))
        (labels_keep (st.made store_is) y z store_took.sizes (same_labels y z store_took.labels) at.labels)
        (λ past keeps. laws.apart owners_then past keeps)
        (λ node write is. laws.own_out store_is y (lettered c (letters ++ heard_box)).store node write at.parts.store_keeps is)
        (λ node write is. laws.own_out store_then z _ node write (takes_store.keeps may_take) is)
        (λ session end has late. subst (λ (chain : Chain). LivesIn (last chain) session) at.pasts.owners_chain (laws.lives owners_are (lettered c (letters ++ heard_box)).owners session end at.parts.owners_keep has late))
        (λ one other block hold live has holds. subst (λ (chain : Chain). oldest chain ≤ other) at.pasts.owners_chain
        (laws.alone owners_are (lettered c (letters ++ heard_box)).owners one other block hold at.parts.owners_keep
        (subst (λ (chain : Chain). LivesIn (last chain) one) (sym at.pasts.owners_chain) live) (subst (λ (chain : Chain). HasRow (last chain) other) (sym at.pasts.owners_chain) has) holds))
        told

-- An input of a machine that is up: the chain grows by what the register decided, and the nodes stand.
module _ {G O S T : Type 0} (g : register.Ghosts G) (o : owners.Ghosts O) (st : store.Ghosts S) (Stands : Truth → Hints → T → Type 0) (Step : T → Deed → T → Type 0) (laws : HandedLaws g o st)
    (register_is register_heard register_then : G) (owners_are owners_then : O) (store_is store_then : S) (x y z : Disks) (letters box heard_box tended_box served_box last_box : List Letter) (clocks : Clocks) (machines : List MachineView)
    (who : Actor) (input : Input) (change shift proposal : Option Change) (c : Course) (tree : T)
    (stands : NodesStand g o st Stands Step register_is owners_are store_is x (letters ++ box) clocks machines c tree)
    (up : clocks.down who ≡ false) (steady : IsSteady clocks.greatest input) (comes : IsComing (letters ++ box) input)
    (register_took : RegisterTook g register_is register_heard x y who input box heard_box)
    (owners_took : OwnersTook o owners_are owners_then (g.knows register_heard who) who input change heard_box tended_box)
    (store_took : StoreTook st store_is store_then y z (g.knows register_heard who) who input shift tended_box served_box)
    (offered : Offered g register_heard register_then z who (option_or change shift) proposal served_box last_box) where
  heard_comes : IsComing (letters ++ heard_box) input
  heard_comes = by input comes
    where
      by : (one : Input) → IsComing (letters ++ box) one → IsComing (letters ++ heard_box) one
      by (Packet packet reading) there = kept_by IsRegisters letters box heard_box register_took.sent _ there
      by (Tick reading) there = tt
      by Synced there = tt

  pub handed : (later : Course) × GrowsBy c.register.proposed c.register.chain later.register.chain × NodesStand g o st Stands Step register_then owners_then store_then z (letters ++ last_box) (heard_clocks clocks input) machines later tree × (later.logs ≡ c.logs)
      × IsLast (g.knows register_then who) c.register.chain later.register.chain × KeepsWorks c later
  handed =
      let heard = registered g o st Stands Step laws register_is register_heard owners_are store_is x y letters box heard_box clocks machines who input c tree stands up comes register_took in
      let but = heard.2 in
      let all = finished g o st Stands Step laws register_heard register_then owners_are owners_then store_is store_then y z letters heard_box tended_box served_box last_box clocks machines who input change shift proposal up steady heard_comes
      owners_took store_took offered heard.0 tree
      (loosen g o st Stands Step register_heard register_heard owners_are store_is y (known_of g o st Stands Step register_heard owners_are store_is y (letters ++ heard_box) clocks machines) (lettered heard.0 (letters ++ heard_box)) tree (λ other. omega arith) but.at)
      but.about but.recovering but.given but.at.parts.register_keeps (λ other one own differ. but.told other one differ own) in (
        all.0,
        subst (λ (chain : Chain). GrowsBy c.register.proposed c.register.chain chain) (sym all.1) heard.1,
        all.2,
        all.3 ∙ heard.3.logs,
        ⊎_elim (λ same. inl (all.1 ∙ same)) (λ known. inr (offered.knows who ∙ known ∙ ap (λ (chain : Chain). last chain) (sym all.1))) heard.4,
        record { slots = all.4.slots ∙ heard.3.slots; doubts = all.4.doubts ∙ heard.3.doubts },
      )
