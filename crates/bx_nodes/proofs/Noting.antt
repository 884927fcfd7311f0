-- A node notes since when it is asked for what, or how many ticks came, or what its tidy does: all else stands as it did.
use Rattle.std.proofs.Common.{◌≡◌, ◌∙◌, ⊎_elim, inl, inr, refl, ◌⊎◌, ℕ, List, All, Contains, Option, Some, IfSome, sym, ap, subst}
use Rattle.std.specs.Prelude.{slice_get}
use Rattle.std.specs.List.{AllByRecursion}
use Rattle.std.proofs.lemmas.List.Elements.{All-from_recursion, All-weaker, recursion_from_All}
use Rattle.bx_base.specs.declared.names.Actor.TheVariants.{Node}
use Rattle.bx_base.specs.declared.names.Mode.{Mode}
use Rattle.bx_disk.specs.Disks.{Disks}
use Rattle.bx_facts.specs.Writes.{Asked, Made, Sent}
use Rattle.bx_facts.specs.declared.register.Register as register
use Rattle.bx_facts.specs.declared.store.Store as store
use Rattle.bx_node_cache.specs.Kept.{held_in, hint_in, kept_in}
use Rattle.bx_node_machines.specs.Machines.{MachineView}
use Rattle.bx_node_machines.specs.Nodes.{NodesStand}
use Rattle.bx_node_steps.specs.Ready.{IsReady, WasReady}
use Rattle.bx_node_steps.specs.Seen.{seen}
use Rattle.bx_node_steps.specs.declared.machine.Machine.{Machine}
use Rattle.bx_node_steps.specs.declared.machine.Mark.{Mark}
use Rattle.bx_node_steps.specs.declared.machine.Tidy.{Tidy}
use Rattle.bx_node_tries.specs.Tries.{AreNeeded}
use Rattle.bx_node_tries.specs.declared.round.Said.{Said}
use Rattle.bx_node_tries.specs.declared.round.Waiting.{Waiting}
use Rattle.bx_nodes.specs.Asks.{IsAsking}
use Rattle.bx_nodes.specs.Standing.{Asking, HasLease, Stand}
use Rattle.bx_nodes.specs.Turns.{AreNeededBy, TurnEnds, Waits}
use Rattle.bx_nodes.specs.Turns.TurnEnds.{Worked, Writing}
use Rattle.bx_nodes.specs.declared.nodes.Nodes.{Nodes}
use Rattle.bx_nodes.specs.declared.turns.Lease.{Lease}
use Rattle.bx_facts.specs.declared.owners.Owners as owners
use Rattle.bx_post.specs.declared.packets.Letter.{Letter}
use Rattle.bx_views.specs.declared.engine.Engine as engine
use Rattle.bx_world_standing.specs.Parts.{Clocks}
use Rattle.bx_world_standing.specs.Standing.{Course}

-- ---- a machine of which only these change

pub able_as : (made : Made) (areas : ℕ) (asked : Option Asked) (machine : Machine) (mark : Option Mark) (ticks : ℕ) (tidy : Option Tidy) → IsReady made areas asked machine → IsReady made areas asked (record machine { mark = mark; ticks = ticks; tidy = tidy })
able_as made areas asked machine mark ticks tidy is = record {
  volume = is.volume;
  engine = is.engine;
  devices = is.devices;
  areas = is.areas;
  is_slot = is.is_slot;
  device = is.device;
  room = is.room;
  fits = is.fits;
  fetch = is.fetch;
}

pub was_able_as : (made : Made) (areas : ℕ) (asked : Option Asked) (machine : Machine) (mark : Option Mark) (ticks : ℕ) (tidy : Option Tidy) → WasReady made areas asked machine → WasReady made areas asked (record machine { mark = mark; ticks = ticks; tidy = tidy })
was_able_as made areas asked machine mark ticks tidy stood = record { before = stood.before; ready = able_as made areas stood.before machine mark ticks tidy stood.ready; stays = stood.stays }

-- what is wanted is asked for then
module _ (IsAsked IsAsked_then : ℕ → Type 0) (on : (at : ℕ) → IsAsked at → IsAsked_then at) where
  pub one_on : (wants : List (ℕ × Mode)) → AllByRecursion (λ wanted. IsAsked wanted.0) wants → AllByRecursion (λ wanted. IsAsked_then wanted.0) wants
  one_on wants all = recursion_from_All (λ (wanted : ℕ × Mode). IsAsked_then wanted.0) wants
      (All-weaker (λ (wanted : ℕ × Mode). IsAsked wanted.0) (λ (wanted : ℕ × Mode). IsAsked_then wanted.0) (λ wanted asked. on wanted.0 asked) wants (All-from_recursion (λ (wanted : ℕ × Mode). IsAsked wanted.0) wants all))

  pub each_on : (needs : List (List (ℕ × Mode))) → AllByRecursion (AllByRecursion (λ wanted. IsAsked wanted.0)) needs → AllByRecursion (AllByRecursion (λ wanted. IsAsked_then wanted.0)) needs
  each_on needs all = recursion_from_All (AllByRecursion (λ (wanted : ℕ × Mode). IsAsked_then wanted.0)) needs
      (All-weaker (AllByRecursion (λ (wanted : ℕ × Mode). IsAsked wanted.0)) (AllByRecursion (λ (wanted : ℕ × Mode). IsAsked_then wanted.0)) one_on needs (All-from_recursion (AllByRecursion (λ (wanted : ℕ × Mode). IsAsked wanted.0)) needs all))

-- what is needed, where the same calls wait and the same blocks are kept
pub needed_as : {E T : Type 0} (e : engine.Ghosts E T) (engine_is : E) (needs : List (List (ℕ × Mode))) (first middle : Machine) (moment : ℕ) (a b : Machine) → b.calls.items ≡ a.calls.items → b.cache ≡ a.cache
    → All (AreNeededBy e engine_is needs first middle a moment) needs → All (AreNeededBy e engine_is needs first middle b moment) needs
needed_as e engine_is needs first middle moment a b calls cache needed =
    All-weaker (AreNeededBy e engine_is needs first middle a moment) (AreNeededBy e engine_is needs first middle b moment)
    (λ wants need. ⊎_elim (λ by_call. inl (subst (λ (l : List Waiting). AreNeeded e engine_is (held_in middle.cache.kept) (hint_in middle.cache.hinted) moment l wants) (sym calls) by_call))
    (λ of_tidy. inr (record { before = of_tidy.before; tidy = of_tidy.tidy; is = of_tidy.is; fair = of_tidy.fair; keeps = λ at. subst (λ k. (kept_in k.kept at ≡ kept_in of_tidy.before.cache.kept at) ⊎ ((some : List (ℕ × Mode)) × Contains needs some × ((mode : Mode) × Contains some (at, mode)))) (sym cache) (of_tidy.keeps at) })) need) needs needed

-- what it waits for, where the same is asked for
module _ {O E T : Type 0} (o : owners.Ghosts O) (e : engine.Ghosts E T) (engine_is : E) (node moment session : ℕ) (said : List Said) (before after : O) (out : Option Sent) (IsAsked IsAsked_then : ℕ → Type 0) (on : (at : ℕ) → IsAsked at → IsAsked_then at) (first : Machine) where
  pub waits_as : (machine : Machine) (mark : Option Mark) (ticks : ℕ) (tidy : Option Tidy) → Waits o e engine_is node moment session said before after out IsAsked first machine
      → Waits o e engine_is node moment session said before after out IsAsked_then first (record machine { mark = mark; ticks = ticks; tidy = tidy })
  waits_as machine mark ticks tidy stood = record {
    middle = stood.middle;
    between = stood.between;
    back = stood.back;
    given = stood.given;
    calls = stood.calls;
    answered = stood.answered;
    in_turn = stood.in_turn;
    newest = stood.newest;
    noted = stood.noted;
    later = stood.later;
    needs = stood.needs;
    needed = needed_as e engine_is stood.needs first stood.middle moment machine (record machine { mark = mark; ticks = ticks; tidy = tidy }) refl refl stood.needed;
    wanted = stood.wanted;
    causes = stood.causes;
    left = stood.left;
    asking = ⊎_elim (λ some. inl some) (λ all. inr (each_on IsAsked IsAsked_then on stood.needs all)) stood.asking;
    keeps = stood.keeps;
  }

-- and so how a turn leaves it
pub ends_as : {O E T : Type 0} (o : owners.Ghosts O) (e : engine.Ghosts E T) (engine_is : E) (node moment session : ℕ) (answer : Option (List ℕ)) (asked : Option Asked) (said : List Said) (before after : O) (out : Option Sent) (IsAsked IsAsked_then : ℕ → Type 0) → ((at : ℕ) → IsAsked at → IsAsked_then at)
    → (old machine : Machine) (mark : Option Mark) → TurnEnds o e engine_is node moment session answer asked said before after out IsAsked old machine → TurnEnds o e engine_is node moment session answer asked said before after out IsAsked_then old (record machine { mark = mark })
ends_as o e engine_is node moment session answer asked said before after out IsAsked IsAsked_then on old machine mark (Writing some same) = Writing some same
ends_as o e engine_is node moment session answer asked said before after out IsAsked IsAsked_then on old machine mark (Worked first comes waits) =
    Worked first comes (waits_as o e engine_is node moment session said before after out IsAsked IsAsked_then on first machine mark machine.ticks machine.tidy waits)

-- ---- nodes

module _ {G O S E T : Type 0} (g : register.Ghosts G) (o : owners.Ghosts O) (st : store.Ghosts S) (e : engine.Ghosts E T) (old new : Nodes G O S E T)
    (same : (new.register ≡ old.register) × (new.owners ≡ old.owners) × (new.store ≡ old.store) × (new.engine ≡ old.engine)) where
  pub stands_noted : (x : Disks) (letters : List Letter) (clocks : Clocks) (c : Course) (tree : T) → seen new.machines.items ≡ seen old.machines.items → Stand g o st e old x letters clocks c tree → Stand g o st e new x letters clocks c tree
  stands_noted x letters clocks c tree as_seen stands =
      subst (λ (l : List MachineView). NodesStand g o st (e.stands new.engine) (e.step new.engine) new.register new.owners new.store x letters clocks l c tree) (sym as_seen)
      (subst (λ en. NodesStand g o st (e.stands en) (e.step en) new.register new.owners new.store x letters clocks (seen old.machines.items) c tree) (sym same.3)
      (subst (λ s. NodesStand g o st (e.stands old.engine) (e.step old.engine) new.register new.owners s x letters clocks (seen old.machines.items) c tree) (sym same.2)
      (subst (λ w. NodesStand g o st (e.stands old.engine) (e.step old.engine) new.register w old.store x letters clocks (seen old.machines.items) c tree) (sym same.1)
      (subst (λ r. NodesStand g o st (e.stands old.engine) (e.step old.engine) r old.owners old.store x letters clocks (seen old.machines.items) c tree) (sym same.0) stands))))

  module _ (node : ℕ) (machine : Machine) (mark : Option Mark) (ticks : ℕ) (tidy : Option Tidy) (was : slice_get old.machines.items node ≡ Some machine)
      (is : slice_get new.machines.items node ≡ Some (record machine { mark = mark; ticks = ticks; tidy = tidy })) where
    pub lease_noted : (reading : ℕ) (lease : Lease) → HasLease o st old node reading lease → HasLease o st new node reading lease
    lease_noted reading lease has = record {
      is_own = ap (λ w. o.own w node) same.1 ∙ has.is_own;
      is_stores = ap (λ s. st.own s node) same.2 ∙ has.is_stores;
      is_under = subst (λ (m : Option Machine). IfSome m (λ one. one.session ≡ Some lease.session)) (sym is) (subst (λ (m : Option Machine). IfSome m (λ one. one.session ≡ Some lease.session)) was has.is_under);
      ends = ap (λ w. o.end_of w node) same.1 ∙ has.ends;
      valid = has.valid;
    }

    pub asking_noted : (at : ℕ) → Asking g o old node at → Asking g o new node at
    asking_noted at asking =
        let Of : G → O → Machine → Type 0 = λ r w m. IsAsking (o.request w node at) (o.hold w node at) (g.knows r (Node node)).index m.fetch (o.is_spent w node) in
        subst (λ (m : Option Machine). IfSome m (Of new.register new.owners)) (sym is)
        (subst (λ r. Of r new.owners machine) (sym same.0) (subst (λ w. Of old.register w machine) (sym same.1) (subst (λ (m : Option Machine). IfSome m (Of old.register old.owners)) was asking)))

    pub ready_noted : IfSome (slice_get old.machines.items node) (WasReady (st.made old.store) (e.areas old.engine) (st.asked old.store node)) → IfSome (slice_get new.machines.items node) (WasReady (st.made new.store) (e.areas new.engine) (st.asked new.store node))
    ready_noted ready =
        let stood = subst (λ (m : Option Machine). IfSome m (WasReady (st.made old.store) (e.areas old.engine) (st.asked old.store node))) was ready in
        let marked = was_able_as (st.made old.store) (e.areas old.engine) (st.asked old.store node) machine mark ticks tidy stood in
        subst (λ (m : Option Machine). IfSome m (WasReady (st.made new.store) (e.areas new.engine) (st.asked new.store node))) (sym is)
        (subst (λ en. WasReady (st.made new.store) (e.areas en) (st.asked new.store node) (record machine { mark = mark; ticks = ticks; tidy = tidy })) (sym same.3)
        (subst (λ s. WasReady (st.made s) (e.areas old.engine) (st.asked s node) (record machine { mark = mark; ticks = ticks; tidy = tidy })) (sym same.2) marked))

    pub waits_noted : (moment session : ℕ) (said : List Said) (owners_before : O) (first : Machine) → IfSome (slice_get old.machines.items node) (Waits o e old.engine node moment session said owners_before old.owners (st.out_of old.store node) (Asking g o old node) first)
        → IfSome (slice_get new.machines.items node) (Waits o e new.engine node moment session said owners_before new.owners (st.out_of new.store node) (Asking g o new node) first)
    waits_noted moment session said owners_before first waits =
        let stood = subst (λ (m : Option Machine). IfSome m (Waits o e old.engine node moment session said owners_before old.owners (st.out_of old.store node) (Asking g o old node) first)) was waits in
        let marked = waits_as o e old.engine node moment session said owners_before old.owners (st.out_of old.store node) (Asking g o old node) (Asking g o new node) asking_noted first machine mark ticks tidy stood in
        subst (λ (m : Option Machine). IfSome m (Waits o e new.engine node moment session said owners_before new.owners (st.out_of new.store node) (Asking g o new node) first)) (sym is)
        (subst (λ en. Waits o e en node moment session said owners_before new.owners (st.out_of new.store node) (Asking g o new node) first (record machine { mark = mark; ticks = ticks; tidy = tidy })) (sym same.3)
        (subst (λ s. Waits o e old.engine node moment session said owners_before new.owners (st.out_of s node) (Asking g o new node) first (record machine { mark = mark; ticks = ticks; tidy = tidy })) (sym same.2)
        (subst (λ w. Waits o e old.engine node moment session said owners_before w (st.out_of old.store node) (Asking g o new node) first (record machine { mark = mark; ticks = ticks; tidy = tidy })) (sym same.1) marked)))
