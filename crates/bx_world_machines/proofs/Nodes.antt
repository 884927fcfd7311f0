-- What is left of all nodes where one of them does something.
use Rattle.std.proofs.Common.{◌≡◌, ⊎_elim, ◌∙◌, ℕ, ◌<◌, List, length, Option, Some, IfSome, sym, ap, subst}
use Rattle.std.specs.Prelude.{slice_get}
use Rattle.bx_base.specs.declared.names.Actor.{Actor}
use Rattle.bx_facts.specs.declared.register.Register as register
use Rattle.bx_facts.specs.declared.store.Store as store
use Rattle.bx_facts.specs.Writes.{Made}
use Rattle.bx_node_calls.specs.Turns.{IsNodeTurn}
use Rattle.bx_node_calls.proofs.Coming.{Changed, apart_then, changed_at}
use Rattle.bx_node_calls.specs.bx_nodes.proofs.Machines.{of_there, there_is, was_there}
use Rattle.bx_node_calls.proofs.Found.{same_or}
use Rattle.bx_node_calls.proofs.Ready.{ready_still}
use Rattle.bx_node_calls.proofs.Ticking.{apart_ticked}
use Rattle.bx_node_calls.proofs.Turning.{there_then}
use Rattle.bx_node_steps.specs.Calls.{AreApart, KeepsCalls}
use Rattle.bx_node_steps.specs.Tidying.{Ticks}
use Rattle.bx_node_steps.specs.declared.machine.Machine.{Machine}
use Rattle.bx_node_tries.specs.declared.round.Said.{Said}
use Rattle.bx_node_calls.specs.bx_nodes.specs.Standing.{BeReady, OfBoth, OfNode}
use Rattle.bx_node_calls.specs.bx_nodes.specs.Stopping.{Empties}
use Rattle.bx_node_calls.specs.bx_nodes.specs.Turns.{OnlyMachine, OnlyStore}
use Rattle.bx_node_calls.specs.bx_nodes.specs.declared.nodes.Nodes.{Nodes}
use Rattle.bx_facts.specs.declared.owners.Owners as owners
use Rattle.bx_views.specs.declared.engine.Engine as engine
use Rattle.bx_world_machines.specs.Standing.{AreNodes}

module _ {G O S E T : Type 0} (g : register.Ghosts G) (o : owners.Ghosts O) (st : store.Ghosts S) (e : engine.Ghosts E T) (old new : Nodes G O S E T) (were : AreNodes g o st e old) (node : ℕ) (there : node < length old.machines.items)
    (count : length new.machines.items ≡ length old.machines.items) (others : OnlyMachine node old.machines.items new.machines.items) (mine : BeReady st e new node) where
  -- Its machine changes, and the parts don't.
  pub nodes_with : (new.register ≡ old.register) × (new.owners ≡ old.owners) × (new.store ≡ old.store) × (new.engine ≡ old.engine) → ((n : ℕ) → OfNode new n AreApart) → AreNodes g o st e new
  nodes_with parts apart = record {
    registers = ap g.nodes parts.0 ∙ were.registers ∙ sym count;
    owners = ap o.nodes parts.1 ∙ were.owners ∙ sym count;
    stores = ap (λ (s : S). (st.made s).nodes) parts.2 ∙ were.stores ∙ sym count;
    ready = λ n. ⊎_elim
        (λ same. subst (λ (k : ℕ). BeReady st e new k) (sym same) mine)
        (λ ne. ready_still st e old new parts.3 (ap st.made parts.2) n (others.others n ne) (ap (λ (s : S). st.asked s n) parts.2) (were.ready n))
        (same_or n node);
    apart = apart;
  }

  -- it meets its session
  pub nodes_renewed : (new.register ≡ old.register) × (new.owners ≡ old.owners) × (new.store ≡ old.store) × (new.engine ≡ old.engine) → OfBoth old new node (λ old new. AreApart old → KeepsCalls old new) → AreNodes g o st e new
  nodes_renewed parts calls = nodes_with parts
      (apart_then node old.machines.items new.machines.items pair.before pair.after pair.was pair.is others (pair.says (of_there AreApart (slice_get old.machines.items node) pair.before pair.was (were.apart node))).apart were.apart)
    where
      pair : Changed node old new (λ old new. AreApart old → KeepsCalls old new)
      pair = changed_at node old new (λ old new. AreApart old → KeepsCalls old new) there count calls

  -- its clock ticks
  pub nodes_ticked : (new.register ≡ old.register) × (new.owners ≡ old.owners) × (new.store ≡ old.store) × (new.engine ≡ old.engine) → OfBoth old new node Ticks → AreNodes g o st e new
  nodes_ticked parts ticks = nodes_with parts (apart_ticked node old new there count ticks others were.apart)

  -- it has its turn
  pub nodes_turned : (moment : ℕ) (said : List Said) → IsNodeTurn moment node old.machines.items new.machines.items said → (new.register ≡ old.register) × (new.engine ≡ old.engine) × (st.made new.store ≡ st.made old.store) → o.nodes new.owners ≡ o.nodes old.owners
      → OnlyStore st node old.store new.store → AreNodes g o st e new
  nodes_turned moment said turn parts for elsewhere = record {
    registers = ap g.nodes parts.0 ∙ were.registers ∙ sym count;
    owners = for ∙ were.owners ∙ sym count;
    stores = ap (λ (m : Made). m.nodes) parts.2 ∙ were.stores ∙ sym count;
    ready = λ n. ⊎_elim
        (λ same. subst (λ (k : ℕ). BeReady st e new k) (sym same) mine)
        (λ ne. ready_still st e old new parts.1 parts.2 n (others.others n ne) (elsewhere n ne).2 (were.ready n))
        (same_or n node);
    apart = λ n. ⊎_elim
        (λ same. subst (λ (k : ℕ). OfNode new k AreApart) (sym same) here)
        (λ ne. subst (λ (m : Option Machine). IfSome m AreApart) (sym (others.others n ne)) (were.apart n))
        (same_or n node);
  }
    where
      its : (machine : Machine) × (slice_get old.machines.items node ≡ Some machine)
      its = there_is old.machines.items node there

      here : OfNode new node AreApart
      here = let now = there_then moment node 0 old.machines.items new.machines.items said its.0 its.1 turn in was_there AreApart (slice_get new.machines.items node) now.0 now.1 now.2.apart

-- A machine stops.
pub nodes_emptied : {G O S E T : Type 0} (g : register.Ghosts G) (o : owners.Ghosts O) (st : store.Ghosts S) (e : engine.Ghosts E T) (old new : Nodes G O S E T) → AreNodes g o st e old → (who : Actor) → Empties who old.machines.items new.machines.items
    → ((node : ℕ) → BeReady st e old node → BeReady st e new node) → ((node : ℕ) → OfNode old node AreApart → OfNode new node AreApart)
    → (g.nodes new.register ≡ g.nodes old.register) × (o.nodes new.owners ≡ o.nodes old.owners) × (st.made new.store ≡ st.made old.store) → AreNodes g o st e new
nodes_emptied g o st e old new were who empties ready apart made = record {
  registers = made.0 ∙ were.registers ∙ sym empties.count;
  owners = made.1 ∙ were.owners ∙ sym empties.count;
  stores = ap (λ (m : Made). m.nodes) made.2 ∙ were.stores ∙ sym empties.count;
  ready = λ n. ready n (were.ready n);
  apart = λ n. apart n (were.apart n);
}
