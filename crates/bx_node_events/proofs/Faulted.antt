-- A disk fails inside an input: the register's own, or the store's, when register and owners have taken it. What would have been sent isn't sent, and what was decided counts.
use Rattle.std.proofs.Common.{◌≡◌, inl, inr, ℕ, ◌+◌, ◌≤◌, false, List, ◌++◌, Contains, Option, Some, None, refl, sym, ◌∙◌, subst, arith}
use Rattle.std.specs.Option.{option_or}
use Rattle.bx_base.specs.declared.names.Actor.{Actor}
use Rattle.bx_disk.specs.Disks.{Disks}
use Rattle.bx_facts.specs.declared.input.Input.{Input}
use Rattle.bx_facts.specs.declared.register.Register as register
use Rattle.bx_facts.specs.declared.store.Store as store
use Rattle.bx_facts.specs.Chains.{AreLegal, Chain, GrowsBy, HasRow, LivesIn, last, oldest}
use Rattle.bx_facts.specs.Holds.{Hold}
use Rattle.bx_facts.specs.Inputs.{AreAmong, IsComing, IsOwners, IsRegisters, IsSteady, IsStores}
use Rattle.bx_facts.specs.Writes.{GoesOn}
use Rattle.bx_global.specs.declared.change.Change.{Change}
use Rattle.bx_node_events.specs.Works.{KeepsWorks}
use Rattle.bx_node_events.proofs.Decided as decided
use Rattle.bx_node_events.proofs.Decided.{lettered}
use Rattle.bx_node_events.proofs.Handed.{Offered, OwnersTook, StoreTook, handed}
use Rattle.bx_node_events.proofs.Hears.{rises_then}
use Rattle.bx_node_events.proofs.Passing as passing
use Rattle.bx_node_events.proofs.Registered.{HandedLaws, IsLast, RegisterTook, kept_by, registered}
use Rattle.bx_node_events.proofs.Taken.{tighten}
use Rattle.bx_node_machines.specs.Machines.{MachineView}
use Rattle.bx_node_machines.specs.Nodes.{NodesStand, known_of}
use Rattle.bx_node_machines.specs.Stopping.{StandsBut}
use Rattle.bx_facts.specs.declared.owners.Owners as owners
use Rattle.bx_post.specs.declared.packets.Letter.{Letter}
use Rattle.bx_views.specs.Attempts.{Deed}
use Rattle.bx_views.specs.Truths.{Hints, Truth}
use Rattle.bx_world_chains.specs.Entitled.{AreAllowed}
use Rattle.bx_world_standing.specs.Parts.{Clocks}
use Rattle.bx_world_standing.specs.Standing.{Course, StandsAt}
use Rattle.bx_world_stays.proofs.Heard.{heard_clocks}
use Rattle.bx_world_stays.proofs.Stays.{stays}

-- Letters are lost.
module _ {G O S T : Type 0} (g : register.Ghosts G) (o : owners.Ghosts O) (st : store.Ghosts S) (Stands : Truth → Hints → T → Type 0) (Step : T → Deed → T → Type 0) (laws : HandedLaws g o st)
    (register_is : G) (owners_are : O) (store_is : S) (x : Disks) (letters fewer : List Letter) (clocks : Clocks) (machines : List MachineView) (c : Course) (tree : T)
    (stands : NodesStand g o st Stands Step register_is owners_are store_is x letters clocks machines c tree) (among : (letter : Letter) → Contains fewer letter → Contains letters letter) where
  all_among : (Is : Letter → Type 0) (posted : List Letter) → posted ≡ letters → AreAmong Is fewer posted
  all_among Is posted same = record { each = λ letter own there. subst (λ (l : List Letter). Contains l letter) (sym same) (among letter there) }

  allowed : AreAllowed c.register.chain
  allowed = record { each = λ s there. laws.allowed register_is x c.register s stands.at.parts.register_keeps there }

  legal : AreLegal c.register.chain.first c.register.chain.changes
  legal = laws.legal register_is x c.register stands.at.parts.register_keeps

  owners_lose : o.keeps owners_are (lettered c fewer).owners
  owners_lose = laws.owners_lose owners_are c.owners fewer stands.at.parts.owners_keep (all_among IsOwners c.owners.told.letters stands.at.pasts.owners_letters)

  store_loses : st.keeps store_is x (lettered c fewer).store × GoesOn c.store.writes c.store.told.greatest (st.asked store_is) (st.settled store_is x c.store) (st.settled store_is x (lettered c fewer).store)
      (st.will_read store_is x c.store) (st.will_read store_is x (lettered c fewer).store) (st.stands store_is x c.store) (st.stands store_is x (lettered c fewer).store)
  store_loses = laws.stores_lose store_is x c.store fewer stands.at.parts.store_keeps (all_among IsStores c.store.told.letters stands.at.pasts.store_letters)

  lives : (session end : ℕ) → Contains c.owners.leases (session, end) → c.owners.told.greatest ≤ end + 500 → LivesIn (last c.register.chain) session
  lives session end has late = subst (λ (chain : Chain). LivesIn (last chain) session) stands.at.pasts.owners_chain (laws.lives owners_are c.owners session end stands.at.parts.owners_keep has late)

  alone : (one other block : ℕ) (hold : Hold) → LivesIn (last c.register.chain) one → HasRow (last c.register.chain) other → c.owners.holding one block ≡ Some hold → oldest c.register.chain ≤ other
  alone one other block hold live has holds = subst (λ (chain : Chain). oldest chain ≤ other) stands.at.pasts.owners_chain
      (laws.alone owners_are c.owners one other block hold stands.at.parts.owners_keep
      (subst (λ (chain : Chain). LivesIn (last chain) one) (sym stands.at.pasts.owners_chain) live) (subst (λ (chain : Chain). HasRow (last chain) other) (sym stands.at.pasts.owners_chain) has) holds)

  pub lost : NodesStand g o st Stands Step register_is owners_are store_is x fewer clocks machines (lettered c fewer) tree
  lost = tighten g o st Stands Step register_is owners_are store_is x fewer clocks machines (lettered c fewer) tree
      (laws.registers_lose register_is x c.register fewer stands.at.parts.register_keeps (all_among IsRegisters c.register.letters stands.at.pasts.letters))
      (record {
        at = decided.still_at g o st Stands Step register_is register_is owners_are store_is x x letters fewer clocks machines c tree stands allowed legal (λ who. omega arith) owners_lose store_loses.0 store_loses.1 stands.at.labels lives alone;
        about = decided.still_about g o st Stands Step register_is register_is owners_are store_is x x letters fewer clocks machines c tree stands allowed legal (λ who. omega arith) owners_lose store_loses.0 store_loses.1 stands.at.labels lives alone;
        recovering = decided.still_recovering g o st Stands Step register_is register_is owners_are store_is x x letters fewer clocks machines c tree stands allowed legal (λ who. omega arith) owners_lose store_loses.0 store_loses.1 stands.at.labels lives alone;
        single = stands.single;
        told = stands.told;
        given = stands.given;
      })

-- A clock is read, later than all before or not.
module _ {G O S T : Type 0} (g : register.Ghosts G) (o : owners.Ghosts O) (st : store.Ghosts S) (Stands : Truth → Hints → T → Type 0) (Step : T → Deed → T → Type 0) (laws : HandedLaws g o st)
    (register_is : G) (owners_are : O) (store_is : S) (x : Disks) (who : Actor) (letters : List Letter) (clocks : Clocks) (machines : List MachineView) (c : Course) (tree : T) (input : Input)
    (stands : StandsBut g o st Stands Step register_is owners_are store_is x who letters clocks machines c tree) where
  read_at : StandsAt g o st Stands Step register_is owners_are store_is x (known_of g o st Stands Step register_is owners_are store_is x letters (heard_clocks clocks input) machines) c tree
  read_at =
      let at = stands.at in
      stays g o st Stands Step register_is register_is owners_are owners_are store_is store_is x x (known_of g o st Stands Step register_is owners_are store_is x letters clocks machines)
      (known_of g o st Stands Step register_is owners_are store_is x letters (heard_clocks clocks input) machines) c c.register c.owners c.store tree at
      (record {
        owners_chain = at.pasts.owners_chain;
        store_chain = at.pasts.store_chain;
        letters = at.pasts.letters;
        owners_letters = at.pasts.owners_letters;
        store_letters = at.pasts.store_letters;
        down = at.pasts.down;
        owners_down = at.pasts.owners_down;
        store_down = at.pasts.store_down;
        boots = at.pasts.boots;
        owners_most = at.pasts.owners_most;
        store_most = at.pasts.store_most;
        owners_boots = at.pasts.owners_boots;
        store_boots = at.pasts.store_boots;
        own_boots = at.pasts.own_boots;
        next_boots = at.pasts.next_boots;
        proposed = at.pasts.proposed;
        owners_greatest = at.pasts.owners_greatest;
        greatest = let a = at.pasts.greatest in let b = rises_then clocks.greatest input in omega (arith, a, b);
      })
      (record {
        register_keeps = at.parts.register_keeps;
        owners_keep = at.parts.owners_keep;
        store_keeps = at.parts.store_keeps;
        owners_knew = at.parts.owners_knew;
        store_knew = at.parts.store_knew;
        same_boots = at.parts.same_boots;
        own = at.parts.own;
      })
      at.labels refl (record { each = λ session block hold is. is }) (λ block. omega arith) (λ session end is. is) refl (omega arith)
      (λ d s content index only is. is)
      (λ node session row is alive of. (record { up = of.up; of = of.of; boot = of.boot }, omega arith))
      (record { told = at.sessions.told })
      (λ node session is alive. inl is) at.volume.single at.volume.apart at.closings (λ node session place mode block own_is alive shows. shows) (λ node. inl refl)

  pub read_later : StandsBut g o st Stands Step register_is owners_are store_is x who letters (heard_clocks clocks input) machines c tree
  read_later = record {
    at = read_at;
    about = passing.about_passes g o st Stands Step register_is register_is owners_are owners_are store_is store_is x x letters letters clocks (heard_clocks clocks input) machines c tree c.register c.owners c.store
        stands.at stands.about stands.recovering stands.given
        (record { each = λ s there. laws.allowed register_is x c.register s stands.at.parts.register_keeps there })
        (laws.legal register_is x c.register stands.at.parts.register_keeps)
        read_at refl (λ gone by there. there)
        (record { each = λ session block hold is. is }) (λ block. omega arith) (λ write has. has) (omega arith)
        (λ node its row is alive of. (record { up = of.up; of = of.of; boot = of.boot }, omega arith))
        (λ d s content index only is. is) (λ node its s content asks own asked still only was. was)
        (λ node its row is alive of own. own) (λ node its own apart. absurd (apart own)) (λ node its own. inr refl) (λ node its own. inr refl)
        (λ node write own out none alive. absurd (let wrong : None ≡ Some write = sym none ∙ out in cc))
        (λ session end has late. subst (λ (chain : Chain). LivesIn (last chain) session) stands.at.pasts.owners_chain (laws.lives owners_are c.owners session end stands.at.parts.owners_keep has late))
        (λ one other block hold alive has holds. subst (λ (chain : Chain). oldest chain ≤ other) stands.at.pasts.owners_chain
        (laws.alone owners_are c.owners one other block hold stands.at.parts.owners_keep
        (subst (λ (chain : Chain). LivesIn (last chain) one) (sym stands.at.pasts.owners_chain) alive) (subst (λ (chain : Chain). HasRow (last chain) other) (sym stands.at.pasts.owners_chain) has) holds));
    recovering = passing.recovering_passes g o st Stands Step register_is register_is owners_are owners_are store_is store_is x x letters letters clocks (heard_clocks clocks input) machines c tree c.register c.owners c.store
        stands.at stands.about stands.recovering stands.given
        (record { each = λ s there. laws.allowed register_is x c.register s stands.at.parts.register_keeps there })
        (laws.legal register_is x c.register stands.at.parts.register_keeps)
        read_at refl (λ gone by there. there)
        (record { each = λ session block hold is. is }) (λ block. omega arith) (λ write has. has) (omega arith)
        (λ node its row is alive of. (record { up = of.up; of = of.of; boot = of.boot }, omega arith))
        (λ d s content index only is. is) (λ node its s content asks own asked still only was. was)
        (λ node its row is alive of own. own) (λ node its own apart. absurd (apart own)) (λ node its own. inr refl) (λ node its own. inr refl)
        (λ node write own out none alive. absurd (let wrong : None ≡ Some write = sym none ∙ out in cc))
        (λ session end has late. subst (λ (chain : Chain). LivesIn (last chain) session) stands.at.pasts.owners_chain (laws.lives owners_are c.owners session end stands.at.parts.owners_keep has late))
        (λ one other block hold alive has holds. subst (λ (chain : Chain). oldest chain ≤ other) stands.at.pasts.owners_chain
        (laws.alone owners_are c.owners one other block hold stands.at.parts.owners_keep
        (subst (λ (chain : Chain). LivesIn (last chain) one) (sym stands.at.pasts.owners_chain) alive) (subst (λ (chain : Chain). HasRow (last chain) other) (sym stands.at.pasts.owners_chain) has) holds));
    single = stands.single;
    told = stands.told;
    given = stands.given;
  }

module _ {G O S T : Type 0} (g : register.Ghosts G) (o : owners.Ghosts O) (st : store.Ghosts S) (Stands : Truth → Hints → T → Type 0) (Step : T → Deed → T → Type 0) (laws : HandedLaws g o st)
    (register_is register_heard : G) (owners_are : O) (store_is : S) (x y : Disks) (letters box : List Letter) (clocks : Clocks) (machines : List MachineView)
    (who : Actor) (input : Input) (c : Course) (tree : T)
    (stands : NodesStand g o st Stands Step register_is owners_are store_is x (letters ++ box) clocks machines c tree)
    (up : clocks.down who ≡ false) (comes : IsComing (letters ++ box) input) where
  -- The register's disk failed: it sent nothing, and owners and store weren't handed the input.
  pub register_faulted : RegisterTook g register_is register_heard x y who input box box
      → (later : Course) × GrowsBy c.register.proposed c.register.chain later.register.chain × StandsBut g o st Stands Step register_heard owners_are store_is y who (letters ++ box) (heard_clocks clocks input) machines later tree × (later.logs ≡ c.logs)
      × IsLast (g.knows register_heard who) c.register.chain later.register.chain × KeepsWorks c later
  register_faulted took =
      let heard = registered g o st Stands Step laws register_is register_heard owners_are store_is x y letters box box clocks machines who input c tree stands up comes took in
      (lettered heard.0 (letters ++ box), heard.1, read_later g o st Stands Step laws register_heard owners_are store_is y who (letters ++ box) clocks machines (lettered heard.0 (letters ++ box)) tree input heard.2, heard.3.logs, heard.4, record { slots = heard.3.slots; doubts = heard.3.doubts })

  -- The store's did, when register and owners had taken the input: what these sent is lost.
  pub store_faulted : (owners_then : O) (store_then : S) (z : Disks) (heard_box tended_box : List Letter) (change : Option Change) → IsSteady clocks.greatest input
      → RegisterTook g register_is register_heard x y who input box heard_box
      → OwnersTook o owners_are owners_then (g.knows register_heard who) who input change heard_box tended_box
      → StoreTook st store_is store_then y z (g.knows register_heard who) who input None tended_box tended_box
      → (later : Course) × GrowsBy c.register.proposed c.register.chain later.register.chain × NodesStand g o st Stands Step register_heard owners_then store_then z (letters ++ box) (heard_clocks clocks input) machines later tree × (later.logs ≡ c.logs)
      × IsLast (g.knows register_heard who) c.register.chain later.register.chain × KeepsWorks c later
  store_faulted owners_then store_then z heard_box tended_box change steady register_took owners_took store_took =
      let all = handed g o st Stands Step laws register_is register_heard register_heard owners_are owners_then store_is store_then x y z letters box heard_box tended_box tended_box tended_box clocks machines who input change None None c tree
      stands up steady comes register_took owners_took store_took none_offered in (
        lettered all.0 (letters ++ box),
        all.1,
        lost g o st Stands Step laws register_heard owners_then store_then z (letters ++ tended_box) (letters ++ box) (heard_clocks clocks input) machines all.0 tree all.2
            (λ letter there. kept_by IsOwners letters heard_box tended_box owners_took.sent letter (kept_by IsRegisters letters box heard_box register_took.sent letter there)),
        all.3,
        all.4,
        record { slots = all.5.slots; doubts = all.5.doubts },
      )
    where
      none_offered : Offered g register_heard register_heard z who (option_or change None) None tended_box tended_box
      none_offered = record {
        keeps = λ past keeps it_is_up. keeps;
        is_offered = λ one is. absurd cc;
        knows = λ other. refl;
        sent = λ past keeps. record { kept = λ letter there. there; each = λ letter there. inl there };
      }
