-- The machine of a node that stopped has nothing, as it is seen.
use Rattle.std.proofs.Common.{◌≡◌, ◌≢◌, ◌⊎◌, ⊎_elim, inl, inr, ◌∙◌, ℕ, true, List, Option, Some, None, refl, sym, ap, subst}
use Rattle.std.specs.Prelude.{IfSome, IsSomeAnd, slice_get}
use Rattle.bx_base.specs.declared.names.Actor.{Actor}
use Rattle.bx_base.specs.declared.names.Actor.TheVariants.{Member, Node, Replica, Server}
use Rattle.bx_disk.specs.Disks.{Disks}
use Rattle.bx_facts.specs.declared.register.Register as register
use Rattle.bx_facts.specs.declared.store.Store as store
use Rattle.bx_facts.specs.Holds.{owners_crashed}
use Rattle.bx_facts.specs.Pasts.{register_crashed}
use Rattle.bx_facts.specs.Writes.{store_crashed}
use Rattle.bx_facts.proofs.Machines.{here}
use Rattle.bx_node_cache.specs.Kept.{CacheView, hint_in}
use Rattle.bx_node_events.proofs.Registered.{HandedLaws}
use Rattle.bx_node_events.proofs.Stopping.{OwnersStop, RegisterStops, StoreStops, stops}
use Rattle.bx_node_machines.specs.Machines.{MachineView}
use Rattle.bx_node_machines.specs.Nodes.{NodesStand}
use Rattle.bx_node_machines.specs.Stopping.{StandsBut}
use Rattle.bx_node_machines.proofs.Downing.{downed}
use Rattle.bx_nodes.specs.Asks.{Later}
use Rattle.bx_node_steps.specs.Seen.{seen, view_of}
use Rattle.bx_nodes.specs.Stopping.{Empties, HasNothing, with_down}
use Rattle.bx_node_steps.specs.declared.machine.Machine.{Machine}
use Rattle.bx_nodes.proofs.Machines.{seen_others, seen_there}
use Rattle.bx_facts.specs.declared.owners.Owners as owners
use Rattle.bx_post.specs.declared.packets.Letter.{Letter}
use Rattle.bx_views.specs.Attempts.{Deed}
use Rattle.bx_views.specs.Truths.{Hints, Truth, no_hints}
use Rattle.bx_world_standing.specs.Parts.{Clocks}
use Rattle.bx_world_standing.specs.Standing.{Course}

-- A node is seen in its place that has no session and no hints; all others are seen as they were.
pub record IsSeenEmpty (who : Actor) (old new : List Machine) : Type 0 where
  pub node : ℕ
  pub machine : MachineView
  pub is_node : who ≡ Node node
  pub there : slice_get (seen new) node ≡ Some machine
  pub others : (other : ℕ) → other ≢ node → slice_get (seen new) other ≡ slice_get (seen old) other
  pub unmarked : machine.session ≡ None
  pub no_hint : machine.hints ≡ no_hints

-- Nothing was emptied, or it is seen so.
pub emptied : (who : Actor) (old new : List Machine) → Empties who old new → (((node : ℕ) → who ≡ Node node → slice_get old node ≡ None) → new ≡ old) → (new ≡ old) ⊎ IsSeenEmpty who old new
emptied (Replica n) old new empties same = inl (same (λ node e. absurd cc))
emptied (Server n) old new empties same = inl (same (λ node e. absurd cc))
emptied (Member n) old new empties same = inl (same (λ node e. absurd cc))
emptied (Node n) old new empties same = by (slice_get old n) refl (slice_get new n) refl
  where
    number : (node : ℕ) → Node n ≡ Node node → n ≡ node
    number node e = cc

    by : (was : Option Machine) → slice_get old n ≡ was → (now : Option Machine) → slice_get new n ≡ now → (new ≡ old) ⊎ IsSeenEmpty (Node n) old new
    by None none now is = inl (same (λ node e. ap (λ (i : ℕ). slice_get old i) (sym (number node e)) ∙ none))
    by (Some before) was None none = absurd (subst (λ (m : Option Machine). IsSomeAnd m (HasNothing before.cache.devices before.cache.areas)) none
        (subst (λ (m : Option Machine). IfSome m (λ one. IsSomeAnd (slice_get new n) (HasNothing one.cache.devices one.cache.areas))) was (empties.empty n refl)))
    by (Some before) was (Some after) is =
        let has : HasNothing before.cache.devices before.cache.areas after = subst (λ (m : Option Machine). IsSomeAnd m (HasNothing before.cache.devices before.cache.areas)) is
        (subst (λ (m : Option Machine). IfSome m (λ one. IsSomeAnd (slice_get new n) (HasNothing one.cache.devices one.cache.areas))) was (empties.empty n refl)) in
        inr (record {
          node = n;
          machine = view_of after;
          is_node = refl;
          there = seen_there new n after is;
          others = λ other ne. seen_others old new other (empties.others other (λ e. ne (sym (number other e))));
          unmarked = has.session;
          no_hint = ap (λ (cache : CacheView). hint_in cache.hinted) has.cache;
        })

-- The nodes stand with the parts that they have.
pub with_parts : {G O S F T : Type 0} (g : register.Ghosts G) (o : owners.Ghosts O) (st : store.Ghosts S) (stands : F → Truth → Hints → T → Type 0) (step : F → T → Deed → T → Type 0)
    (register_is register_then : G) (owners_are owners_then : O) (store_is store_then : S) (engine engine_then : F) → register_then ≡ register_is → owners_then ≡ owners_are → store_then ≡ store_is → engine_then ≡ engine
    → (x : Disks) (letters : List Letter) (clocks : Clocks) (machines : List MachineView) (c : Course) (tree : T)
    → NodesStand g o st (stands engine) (step engine) register_is owners_are store_is x letters clocks machines c tree → NodesStand g o st (stands engine_then) (step engine_then) register_then owners_then store_then x letters clocks machines c tree
with_parts {G} {O} {S} {F} g o st stands step register_is register_then owners_are owners_then store_is store_then engine engine_then same_register same_owners same_store same_engine x letters clocks machines c tree is =
    subst (λ (r : G). NodesStand g o st (stands engine_then) (step engine_then) r owners_then store_then x letters clocks machines c tree) (sym same_register)
    (subst (λ (w : O). NodesStand g o st (stands engine_then) (step engine_then) register_is w store_then x letters clocks machines c tree) (sym same_owners)
    (subst (λ (s : S). NodesStand g o st (stands engine_then) (step engine_then) register_is owners_are s x letters clocks machines c tree) (sym same_store)
    (subst (λ (f : F). NodesStand g o st (stands f) (step f) register_is owners_are store_is x letters clocks machines c tree) (sym same_engine) is)))

module _ {G O S T : Type 0} (g : register.Ghosts G) (o : owners.Ghosts O) (st : store.Ghosts S) (Stands : Truth → Hints → T → Type 0) (Step : T → Deed → T → Type 0) where
  -- A machine that is down, where it is a node, has nothing then: the nodes stand.
  pub empty_stands : (register_is : G) (owners_are : O) (store_is : S) (x : Disks) (letters : List Letter) (clocks : Clocks) (old new : List Machine) (c : Course) (tree : T) (who : Actor) → clocks.down who ≡ true
      → Empties who old new → (((node : ℕ) → who ≡ Node node → slice_get old node ≡ None) → new ≡ old)
      → NodesStand g o st Stands Step register_is owners_are store_is x letters clocks (seen old) c tree → NodesStand g o st Stands Step register_is owners_are store_is x letters clocks (seen new) c tree
  empty_stands register_is owners_are store_is x letters clocks old new c tree who down empties same stands = ⊎_elim
      (λ all. subst (λ (machines : List Machine). NodesStand g o st Stands Step register_is owners_are store_is x letters clocks (seen machines) c tree) (sym all) stands)
      (λ one. downed g o st Stands Step register_is owners_are store_is x letters clocks (seen old) (seen new) c tree one.node one.machine stands
      (subst (λ (a : Actor). clocks.down a ≡ true) one.is_node down) one.there one.others one.unmarked one.no_hint)
      (emptied who old new empties same)

  -- A machine stops, and its node has nothing.
  pub all_stand : HandedLaws g o st → (register_is register_then : G) (owners_are owners_then : O) (store_is store_then : S) (x : Disks) (letters : List Letter) (clocks : Clocks) (old new : List Machine) (c : Course) (tree : T) (who : Actor)
      → RegisterStops g register_is register_then who → OwnersStop o owners_are owners_then who → StoreStops st store_is store_then who
      → Empties who old new → (((node : ℕ) → who ≡ Node node → slice_get old node ≡ None) → new ≡ old)
      → StandsBut g o st Stands Step register_is owners_are store_is x who letters clocks (seen old) c tree
      → Later (λ later. NodesStand g o st Stands Step register_then owners_then store_then x letters (with_down clocks who) (seen new) later tree) c
  all_stand laws register_is register_then owners_are owners_then store_is store_then x letters clocks old new c tree who register_stops owners_stop store_stops empties same stands = record {
    later = record c { register = register_crashed c.register who; owners = owners_crashed c.owners who; store = store_crashed c.store who };
    chain = refl;
    knew = refl;
    logs = refl;
    works = record { slots = refl; doubts = refl };
    stands = empty_stands register_then owners_then store_then x letters (with_down clocks who) old new _ tree who (here who true clocks.down) empties same
        (stops g o st Stands Step laws register_is register_then owners_are owners_then store_is store_then x letters clocks (seen old) c tree who stands register_stops owners_stop store_stops);
  }
