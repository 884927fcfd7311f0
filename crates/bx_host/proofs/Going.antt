-- A server goes on behind an event; ticks one by one; an event and all behind it.
use Rattle.bx_model.specs.declared.tree.Tree.{Tree}
use Rattle.bx_history.specs.Parts.{Part}
use Rattle.bx_disk.specs.Disks.{Disks}
use Rattle.std.proofs.Common.{◌≡◌, ℕ, suc, ◌+◌, ◌*◌, ◌/◌, ◌^◌, ◌<◌, ◌≤◌, List, [], ◌∷◌, ◌++◌, refl, arith, ap, sym, ◌∙◌, subst, Option, false}
use Rattle.bx_base.specs.declared.names.Actor.{Actor}
use Rattle.bx_base.specs.declared.names.Actor.TheVariants.{Server}
use Rattle.bx_cluster.specs.Steps.{Shown}
use Rattle.bx_disk.specs.declared.rack.Rack as racks
use Rattle.bx_world_events.specs.Refusals.{Seen}
use Rattle.bx_world_events.specs.declared.event.Event.{Event}
use Rattle.bx_host.specs.Lost.{is_lost}
use Rattle.bx_host.specs.Standing.{CanGo}
use Rattle.bx_host.specs.Steps.{Along, IsAt, Place, EventStep}
use Rattle.bx_host.specs.Turns.{AllTicked, AreMembersTicked, AreTicked, IsDueNow, IsNodeTicked, IsOne, IsRun, IsSettled, IsTicked}
use Rattle.bx_host.specs.declared.host.Host.{Host}
use Rattle.bx_host.proofs.Dues.{clock_after}

pub can_after : {C R : Type 0} (seen_of : C → Seen) (room_of : C → List ℕ → Type 0) (led_of : C → Disks → Tree → List Part → Type 0) (ra : racks.Ghosts R) (old : Host C) (before : R) (new : Host C) (after : R) (event : Event) (stopped : Option Actor)
    → CanGo seen_of room_of led_of ra old before → Shown event stopped (seen_of old.cluster) (seen_of new.cluster) → IsAt old.reading (seen_of old.cluster) event
    → room_of new.cluster (ra.state after).sizes → is_lost new.stopped ≡ false → new.reading ≡ old.reading → CanGo seen_of room_of led_of ra new after
can_after seen_of room_of led_of ra old before new after event stopped can shown at room whole same = record {
  node = subst (λ n. 0 < n) (sym shown.nodes) can.node;
  disks = subst (λ n. 3 + 2 * n < 2 ^ 32) (sym shown.devices) can.disks;
  clock = subst (λ n. (seen_of new.cluster).greatest ≤ n) (sym same) (clock_after old.reading event stopped (seen_of old.cluster) (seen_of new.cluster) shown can.clock at);
  time = subst (λ n. n ≤ 4294967295999) (sym same) can.time;
  room = room;
  whole = whole;
}

-- devices stay as many
pub devices_stay : (Is : Seen → Event → Type 0) (from : Place) (steps : List EventStep) (to : Place) → Along Is from steps to → to.seen.devices ≡ from.seen.devices
devices_stay Is from [] to along = ap (λ (p : Place). p.seen.devices) along
devices_stay Is from (step ∷ earlier) to (middle, along, does, goes) = goes.shown.devices ∙ devices_stay Is from earlier middle along

pub nodes_stay : (Is : Seen → Event → Type 0) (from : Place) (steps : List EventStep) (to : Place) → Along Is from steps to → to.seen.nodes ≡ from.seen.nodes
nodes_stay Is from [] to along = ap (λ (p : Place). p.seen.nodes) along
nodes_stay Is from (step ∷ earlier) to (middle, along, does, goes) = goes.shown.nodes ∙ nodes_stay Is from earlier middle along

-- one more that was due
pub due_more : (reading : ℕ) (event : Event) (a b c : Place) (earlier later : List EventStep) → IsDueNow reading b.seen event → Along (IsDueNow reading) a earlier b → IsOne event b later c → Along (IsDueNow reading) a (later ++ earlier) c
due_more reading event a b c earlier later due along one =
    let is : IsDueNow reading b.seen one.step.event = subst (IsDueNow reading b.seen) (sym one.is) due in
    subst (λ l. Along (IsDueNow reading) a (l ++ earlier) c) (sym one.alone) (b, along, is, one.goes)

-- an event, and all that is due behind it
pub settled : (event : Event) (reading : ℕ) (a b c : Place) (earlier later : List EventStep) → IsOne event a earlier b → IsRun reading b later c → IsSettled (λ its. its ≡ event) reading a (later ++ earlier) c
settled event reading a b c earlier later one run =
    record { first = one.step; rest = later; middle = b; whole = ap (λ (l : List EventStep). later ++ l) one.alone; is = one.is; begins = one.goes; run = run }

pub settled_as : (These Those : Event → Type 0) (reading : ℕ) (a b : Place) (steps : List EventStep) → ((event : Event) → These event → Those event) → IsSettled These reading a steps b → IsSettled Those reading a steps b
settled_as These Those reading a b steps more it =
    record { first = it.first; rest = it.rest; middle = it.middle; whole = it.whole; is = more it.first.event it.is; begins = it.begins; run = it.run }

pub ticked_more : (name : ℕ → Actor) (reading n : ℕ) (a b c : Place) (earlier later : List EventStep) → AreTicked name reading n a earlier b → IsTicked reading (name n) b later c → AreTicked name reading (n + 1) a (later ++ earlier) c
ticked_more name reading n a b c earlier later are is =
    let more : AreTicked name reading (suc n) a (later ++ earlier) c = (b, earlier, later, refl, are, is) in
    let e : suc n ≡ n + 1 = omega arith in
    subst (λ k. AreTicked name reading k a (later ++ earlier) c) e more

-- lock servers had their ticks, and then members
abbrev pub TwoTicked : ℕ → Place → List EventStep → Place → Type 0
TwoTicked reading from steps to =
    (servers : List EventStep) × (members : List EventStep) × (middle : Place) × (steps ≡ members ++ servers) × AreTicked Server reading 2 from servers middle × AreMembersTicked reading middle members to

pub two_ticked : (reading : ℕ) (from middle to : Place) (servers members : List EventStep) → AreTicked Server reading 2 from servers middle → AreMembersTicked reading middle members to → TwoTicked reading from (members ++ servers) to
two_ticked reading from middle to servers members first second = (servers, members, middle, refl, first, second)

pub all_ticked : (first reading : ℕ) (from middle to : Place) (earlier node : List EventStep) → TwoTicked reading from earlier middle → IsNodeTicked first reading middle node to → AllTicked first reading from (node ++ earlier) to
all_ticked first reading from middle to earlier node two is = record {
  servers = two.0;
  members = two.1;
  node = node;
  after_servers = two.2;
  after_members = middle;
  whole = ap (λ (l : List EventStep). node ++ l) two.3;
  servers_are = two.4;
  members_are = two.5;
  node_is = is;
}

-- a member of a device
pub member_there : (n devices ends : ℕ) → n < ends → ends ≡ 2 * devices → n / 2 < devices
member_there n devices ends less is = omega (arith, less, is)
