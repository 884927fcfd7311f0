-- What the three parts make of an input of a machine that is up, by their clauses: the register may decide, then store and owners take the input with the state
-- that the register knows, and a change may be proposed. The nodes stand.
use Rattle.std.proofs.Common.{◌≡◌, ◌≢◌, ◌⊎◌, ◌∙◌, ℕ, ◌+◌, ◌<◌, ◌≤◌, false, List, Contains, Option, Some, None, refl, sym, ap, subst, arith}
use Rattle.std.specs.Prelude.{slice_get}
use Rattle.bx_base.specs.declared.names.Actor.{Actor}
use Rattle.bx_base.specs.declared.names.Actor.TheVariants.{Node}
use Rattle.bx_disk.specs.Disks.{Disks}
use Rattle.bx_facts.specs.declared.input.Input.{Input}
use Rattle.bx_facts.specs.declared.input.Input.TheVariants.{Packet, Synced, Tick}
use Rattle.bx_facts.specs.declared.register.Register as register
use Rattle.bx_facts.specs.declared.store.Store as store
use Rattle.bx_facts.specs.Chains.{AreLegal, Chain, HasOwnBoot, HasRow, IsPlace, LivesIn, last, oldest, session_by, with_change}
use Rattle.bx_facts.specs.Holds.{Hold, Holding, KeepsHolds, OwnersPast}
use Rattle.bx_facts.specs.Inputs.{IsComing, IsSteady}
use Rattle.bx_facts.specs.Pasts.{MayTake}
use Rattle.bx_facts.specs.Writes.{Asked, IsOnly, Sent, StorePast, WritesTo}
use Rattle.bx_global.specs.declared.change.Change.{Change}
use Rattle.bx_global.specs.declared.state.GlobalState.{GlobalState}
use Rattle.bx_node_events.specs.Works.{KeepsWorks}
use Rattle.bx_node_events.proofs.Hears as hearing
use Rattle.bx_node_machines.specs.Machines.{AreAbout, MachineView}
use Rattle.bx_node_machines.specs.Recoveries.{AreRecovering}
use Rattle.bx_node_machines.specs.Nodes.{IsOfNode, NodesStand, known_of, scene_of}
use Rattle.bx_facts.specs.declared.owners.Owners as owners
use Rattle.bx_post.specs.declared.packets.Letter.{Letter}
use Rattle.bx_views.specs.Attempts.{Deed}
use Rattle.bx_views.specs.Truths.{Hints, Truth}
use Rattle.bx_world_chains.specs.Entitled.{AreAllowed}
use Rattle.bx_world_standing.specs.Labels.{LabelsStand}
use Rattle.bx_world_standing.specs.Parts.{Clocks}
use Rattle.bx_world_standing.specs.Standing.{Course, Known, StandsAt, SureOf, own_up}
use Rattle.bx_world_stays.proofs.Heard.{IsProposal, heard_clocks, told_then}
use Rattle.bx_world_views.specs.Views.{AreApart}

-- a register of whose past nothing is asked
abbrev pub loose : {G : Type 0} → register.Ghosts G → register.Ghosts G
loose g = record g { keeps = λ one x past. Unit {0} }

-- a reading that is steady behind a greatest one is so behind a lower one
steady_on : (low high : ℕ) (input : Input) → low ≤ high → IsSteady high input → IsSteady low input
steady_on low high (Packet packet reading) less is = omega (arith, less, is)
steady_on low high (Tick reading) less is = omega (arith, less, is)
steady_on low high Synced less is = tt

module _ {G O S T : Type 0} (g : register.Ghosts G) (o : owners.Ghosts O) (st : store.Ghosts S) (Stands : Truth → Hints → T → Type 0) (Step : T → Deed → T → Type 0) where
  -- Whatever the register's past is, all else stands.
  pub loosen : (register_is register_then : G) (owners_are : O) (store_is : S) (x : Disks) (known : Known) (c : Course) (tree : T) → ((who : Actor) → (g.knows register_is who).index ≤ (g.knows register_then who).index)
      → StandsAt g o st Stands Step register_is owners_are store_is x known c tree → StandsAt (loose g) o st Stands Step register_then owners_are store_is x known c tree
  loosen register_is register_then owners_are store_is x known c tree rises at = record {
    pasts = at.pasts;
    parts = record {
      register_keeps = tt;
      owners_keep = at.parts.owners_keep;
      store_keeps = at.parts.store_keeps;
      owners_knew = λ who. let a = at.parts.owners_knew who in let b = rises who in omega (arith, a, b);
      store_knew = λ who. let a = at.parts.store_knew who in let b = rises who in omega (arith, a, b);
      same_boots = at.parts.same_boots;
      own = at.parts.own;
    };
    labels = at.labels;
    sessions = at.sessions;
    logs = at.logs;
    rights = at.rights;
    writes = at.writes;
    closings = at.closings;
    volume = at.volume;
    doubted = at.doubted;
  }

  pub tightened : (register_is : G) (owners_are : O) (store_is : S) (x : Disks) (letters : List Letter) (clocks : Clocks) (machines : List MachineView) (c : Course) (tree : T) → g.keeps register_is x c.register
      → StandsAt (loose g) o st Stands Step register_is owners_are store_is x (known_of (loose g) o st Stands Step register_is owners_are store_is x letters clocks machines) c tree
      → StandsAt g o st Stands Step register_is owners_are store_is x (known_of g o st Stands Step register_is owners_are store_is x letters clocks machines) c tree
  tightened register_is owners_are store_is x letters clocks machines c tree keeps at = record {
    pasts = at.pasts;
    parts = record {
      register_keeps = keeps;
      owners_keep = at.parts.owners_keep;
      store_keeps = at.parts.store_keeps;
      owners_knew = at.parts.owners_knew;
      store_knew = at.parts.store_knew;
      same_boots = at.parts.same_boots;
      own = at.parts.own;
    };
    labels = at.labels;
    sessions = at.sessions;
    logs = at.logs;
    rights = at.rights;
    writes = at.writes;
    closings = at.closings;
    volume = at.volume;
    doubted = at.doubted;
  }

  pub tighten : (register_is : G) (owners_are : O) (store_is : S) (x : Disks) (letters : List Letter) (clocks : Clocks) (machines : List MachineView) (c : Course) (tree : T) → g.keeps register_is x c.register
      → NodesStand (loose g) o st Stands Step register_is owners_are store_is x letters clocks machines c tree → NodesStand g o st Stands Step register_is owners_are store_is x letters clocks machines c tree
  tighten register_is owners_are store_is x letters clocks machines c tree keeps stands = record {
    at = tightened register_is owners_are store_is x letters clocks machines c tree keeps stands.at;
    about = stands.about;
    recovering = stands.recovering;
    single = stands.single;
    told = stands.told;
    given = stands.given;
  }

-- What the owners' clauses say of an input that they take, of this past, with these letters under way then; and the store's.
pub record TakesOwners {O : Type 0} (o : owners.Ghosts O) (old new : O) (past : OwnersPast) (known : GlobalState) (who : Actor) (input : Input) (change : Option Change) (letters : List Letter) : Type 0 where
  pub keeps : MayTake past.told known who input → Holding (KeepsHolds past.holding) (o.keeps new) (record past { told = told_then past.told who known.index input change letters })
  pub session : (node : ℕ) → MayTake past.told known who input → who ≡ Node node → o.own new node ≡ session_by o.by_boot known node (past.told.boots who)
  pub others : (node : ℕ) → who ≢ Node node → o.own new node ≡ o.own old node

abbrev pub store_then_is : StorePast → GlobalState → Actor → Input → Option Change → List Letter → StorePast
store_then_is past known who input change letters = record past { told = told_then past.told who known.index input change letters }

pub record TakesStore {S : Type 0} (st : store.Ghosts S) (old new : S) (y z : Disks) (past : StorePast) (known : GlobalState) (who : Actor) (input : Input) (change : Option Change) (letters : List Letter) : Type 0 where
  pub keeps : MayTake past.told known who input → st.keeps new z (store_then_is past known who input change letters)
  pub standing : (d s : ℕ) (content : List ℕ) (index : ℕ) → MayTake past.told known who input → IsOnly past.writes past.told.greatest d s content → st.stands old y past d s content index → st.stands new z (store_then_is past known who input change letters) d s content index
  pub reading : (node s : ℕ) (content : List ℕ) (asks : Asked) → MayTake past.told known who input → st.asked old node ≡ Some asks → st.asked new node ≡ Some asks → IsOnly past.writes past.told.greatest asks.device s content
      → st.will_read old y past node s content → st.will_read new z (store_then_is past known who input change letters) node s content
  pub done : (node : ℕ) (write : Sent) → MayTake past.told known who input → st.out_of old node ≡ Some write → st.out_of new node ≡ None → st.own new node ≡ Some write.session → LivesIn (last past.told.chain) write.session
      → (d s : ℕ) (content : List ℕ) → WritesTo write d s content → IsOnly past.writes (store_then_is past known who input change letters).told.greatest d s content
      → st.stands new z (store_then_is past known who input change letters) d s content ((store_then_is past known who input change letters).told.knew (Node node))
  pub session : (node : ℕ) → MayTake past.told known who input → who ≡ Node node → st.own new node ≡ session_by st.by_boot known node (past.told.boots who)
  pub others : (node : ℕ) → who ≢ Node node → st.own new node ≡ st.own old node
  pub new_session : (node : ℕ) → st.own new node ≢ st.own old node → st.asked new node ≡ None
  pub out : (node : ℕ) → (st.out_of new node ≡ None) ⊎ (st.out_of new node ≡ st.out_of old node)
  pub asked : (node : ℕ) → (st.asked new node ≡ None) ⊎ (st.asked new node ≡ st.asked old node)
  pub made : st.made new ≡ st.made old

-- A machine that is up may take an input with the state that its register knows: by what owners were told, and by what the store was.
module _ {G O S T : Type 0} (g : register.Ghosts G) (o : owners.Ghosts O) (st : store.Ghosts S) (Stands : Truth → Hints → T → Type 0) (Step : T → Deed → T → Type 0)
    (register_heard : G) (owners_are : O) (store_is : S) (y : Disks) (heard_letters : List Letter) (clocks : Clocks) (machines : List MachineView) (c : Course) (tree : T) (who : Actor) (input : Input)
    (at : StandsAt (loose g) o st Stands Step register_heard owners_are store_is y (known_of (loose g) o st Stands Step register_heard owners_are store_is y heard_letters clocks machines) c tree)
    (up : clocks.down who ≡ false) (place : IsPlace c.register.chain (g.knows register_heard who)) (steady : IsSteady clocks.greatest input) (comes : IsComing heard_letters input) where
  pub may_owners : MayTake c.owners.told (g.knows register_heard who) who input
  may_owners = record {
    up = at.pasts.owners_down who ∙ up;
    place = subst (λ (chain : Chain). IsPlace chain (g.knows register_heard who)) (sym at.pasts.owners_chain) place;
    rises = at.parts.owners_knew who;
    own_boot = subst (λ (chain : Chain). HasOwnBoot chain (c.owners.told.boots who)) (sym at.pasts.owners_chain) (subst (λ (n : ℕ). HasOwnBoot c.register.chain n) (sym (at.pasts.owners_boots who up)) (at.pasts.own_boots who up));
    steady = steady_on c.owners.told.greatest clocks.greatest input (let a = at.pasts.owners_greatest in let b = at.pasts.greatest in omega (arith, a, b)) steady;
    comes = subst (λ (l : List Letter). IsComing l input) (sym at.pasts.owners_letters) comes;
  }

  pub may_store : MayTake c.store.told (g.knows register_heard who) who input
  may_store = record {
    up = at.pasts.store_down who ∙ up;
    place = subst (λ (chain : Chain). IsPlace chain (g.knows register_heard who)) (sym at.pasts.store_chain) place;
    rises = at.parts.store_knew who;
    own_boot = subst (λ (chain : Chain). HasOwnBoot chain (c.store.told.boots who)) (sym at.pasts.store_chain) (subst (λ (n : ℕ). HasOwnBoot c.register.chain n) (sym (at.pasts.store_boots who up)) (at.pasts.own_boots who up));
    steady = steady_on c.store.told.greatest clocks.greatest input at.pasts.greatest steady;
    comes = subst (λ (l : List Letter). IsComing l input) (sym at.pasts.store_letters) comes;
  }

module _ {G O S T : Type 0} (g : register.Ghosts G) (o : owners.Ghosts O) (st : store.Ghosts S) (Stands : Truth → Hints → T → Type 0) (Step : T → Deed → T → Type 0)
    (register_heard register_then : G) (owners_are owners_then : O) (store_is store_then : S) (y z : Disks) (heard_letters then_letters : List Letter) (clocks : Clocks) (machines : List MachineView) (c : Course) (tree : T)
    (who : Actor) (input : Input) (owners_change store_change proposal : Option Change)
    (at : StandsAt (loose g) o st Stands Step register_heard owners_are store_is y (known_of (loose g) o st Stands Step register_heard owners_are store_is y heard_letters clocks machines) c tree)
    (about : AreAbout (st.made store_is).devices (st.made store_is).areas (SureOf (loose g) o st Stands Step register_heard owners_are store_is y (known_of (loose g) o st Stands Step register_heard owners_are store_is y heard_letters clocks machines) c)
    (st.will_read store_is y c.store) (IsOfNode o.by_boot clocks) (scene_of (loose g) o st Stands Step register_heard owners_are store_is y clocks.down machines c))
    (recovering : AreRecovering (st.made store_is).devices (st.made store_is).areas (SureOf (loose g) o st Stands Step register_heard owners_are store_is y (known_of (loose g) o st Stands Step register_heard owners_are store_is y heard_letters clocks machines) c)
    (st.will_read store_is y c.store) c.register.chain (λ n. c.store.told.knew (Node n)) c.register.proposed (scene_of (loose g) o st Stands Step register_heard owners_are store_is y clocks.down machines c))
    (given : (node session : ℕ) (machine : MachineView) → slice_get machines node ≡ Some machine → machine.session ≡ Some session → session < (last c.register.chain).next_session)
    (allowed : AreAllowed c.register.chain) (legal : AreLegal c.register.chain.first c.register.chain.changes)
    (up : clocks.down who ≡ false) (place : IsPlace c.register.chain (g.knows register_heard who)) (steady : IsSteady clocks.greatest input) (comes : IsComing heard_letters input)
    (takes_owners : TakesOwners o owners_are owners_then c.owners (g.knows register_heard who) who input owners_change then_letters)
    (takes_store : TakesStore st store_is store_then y z c.store (g.knows register_heard who) who input store_change then_letters)
    (register_keeps : g.keeps register_then z (record c.register { letters = then_letters; proposed = with_change proposal c.register.proposed }))
    (same_knows : (other : Actor) → g.knows register_then other ≡ g.knows register_heard other)
    (proposes : (change : Change) → proposal ≡ Some change → IsProposal (with_change owners_change c.owners.told.handed) (with_change store_change c.store.told.handed) change)
    (labels : LabelsStand (st.made store_is) z)
    (apart : (past : OwnersPast) → o.keeps owners_then past → AreApart past.holding (HasRow (last past.told.chain)))
    (own_out : (node : ℕ) (write : Sent) → st.out_of store_is node ≡ Some write → st.own store_is node ≡ Some write.session) (own_out_then : (node : ℕ) (write : Sent) → st.out_of store_then node ≡ Some write → st.own store_then node ≡ Some write.session)
    (lives : (session end : ℕ) → Contains c.owners.leases (session, end) → c.owners.told.greatest ≤ end + 500 → LivesIn (last c.register.chain) session)
    (alone : (one other block : ℕ) (hold : Hold) → LivesIn (last c.register.chain) one → HasRow (last c.register.chain) other → c.owners.holding one block ≡ Some hold → oldest c.register.chain ≤ other)
    (told : (other one : ℕ) → own_up clocks.down (o.own owners_are) other ≡ Some one → who ≢ Node other → (g.knows register_heard (Node other)).index ≤ c.store.told.knew (Node other)) where
  may_o : MayTake c.owners.told (g.knows register_heard who) who input
  may_o = may_owners g o st Stands Step register_heard owners_are store_is y heard_letters clocks machines c tree who input at up place steady comes

  may_s : MayTake c.store.told (g.knows register_heard who) who input
  may_s = may_store g o st Stands Step register_heard owners_are store_is y heard_letters clocks machines c tree who input at up place steady comes

  holds : Holding (KeepsHolds c.owners.holding) (o.keeps owners_then) (record c.owners { told = told_then c.owners.told who (g.knows register_heard who).index input owners_change then_letters })
  holds = takes_owners.keeps may_o

  -- The nodes stand.
  pub takes : (course : Course) × (course.register.chain ≡ c.register.chain) × NodesStand g o st Stands Step register_then owners_then store_then z then_letters (heard_clocks clocks input) machines course tree × (course.logs ≡ c.logs) × KeepsWorks c course
  takes = (
    hearing.then_is (loose g) o st Stands Step register_heard register_then owners_are owners_then store_is store_then y z heard_letters then_letters clocks machines c tree who (g.knows register_heard who) input owners_change store_change proposal holds.holding at about recovering given allowed legal up place (at.parts.store_knew who),
    refl,
    tighten g o st Stands Step register_then owners_then store_then z then_letters (heard_clocks clocks input) machines _ tree register_keeps
        (hearing.heard (loose g) o st Stands Step register_heard register_then owners_are owners_then store_is store_then y z heard_letters then_letters clocks machines c tree who (g.knows register_heard who) input owners_change store_change proposal holds.holding at about recovering given allowed legal up place (at.parts.store_knew who)
        tt (λ other. let e = ap (λ (one : GlobalState). one.index) (same_knows other) in omega (arith, e)) (let e = ap (λ (one : GlobalState). one.index) (same_knows who) in omega (arith, e)) proposes holds.stands holds.may
        takes_owners.others (λ node same. takes_owners.session node may_o same ∙ ap (λ (n : ℕ). session_by o.by_boot (g.knows register_heard who) node n) (at.pasts.owners_boots who up))
        (takes_store.keeps may_s) (λ d sector content index only was. takes_store.standing d sector content index may_s only was) (λ node sector content asks is still only was. takes_store.reading node sector content asks may_s is still only was)
        takes_store.others (λ node same. takes_store.session node may_s same ∙ ap (λ (n : ℕ). session_by st.by_boot (g.knows register_heard who) node n) (at.pasts.store_boots who up))
        takes_store.made labels apart own_out own_out_then takes_store.new_session takes_store.out takes_store.asked
        (λ node write is none own live. takes_store.done node write may_s is none own (subst (λ (chain : Chain). LivesIn (last chain) write.session) (sym at.pasts.store_chain) live))
        lives alone
        (λ other one own differ. let low = told other one own differ in let e = ap (λ (s : GlobalState). s.index) (same_knows (Node other)) in omega (arith, low, e)) (let e = ap (λ (one : GlobalState). one.index) (same_knows who) in omega (arith, e))),
    refl,
    record { slots = refl; doubts = refl },
  )
