-- What is left of nodes that were ready.
use Rattle.std.proofs.Common.{◌≡◌, ◌≢◌, ⊎_elim, ◌∙◌, ℕ, length, OnOk, Result, Ok, Err, sym, ap, subst}
use Rattle.std.specs.Prelude.{IsErrOf}
use Rattle.bx_facts.specs.declared.register.Register as register
use Rattle.bx_facts.specs.declared.store.Store as store
use Rattle.bx_facts.specs.Writes.{Made}
use Rattle.bx_node_calls.proofs.Found.{same_or}
use Rattle.bx_node_calls.proofs.Ready.{ready_still}
use Rattle.bx_nodes.specs.Standing.{BeReady}
use Rattle.bx_nodes.specs.Turns.{OnlyMachine}
use Rattle.bx_nodes.specs.declared.nodes.Nodes.{Nodes}
use Rattle.bx_tests_nodes.specs.Desks.{IsReady}
use Rattle.bx_views.specs.declared.engine.Engine as engine

module _ {G O S E T : Type 0} (g : register.Ghosts G) (st : store.Ghosts S) (e : engine.Ghosts E T) (old : Nodes G O S E T) (count : ℕ) (ready : IsReady g st e old count) where
  -- Something was done with one node.
  pub one_done : (node : ℕ) (new : Nodes G O S E T) → length new.machines.items ≡ length old.machines.items → new.register ≡ old.register → new.engine ≡ old.engine → st.made new.store ≡ st.made old.store
      → OnlyMachine node old.machines.items new.machines.items → ((other : ℕ) → other ≢ node → st.asked new.store other ≡ st.asked old.store other) → BeReady st e new node → IsReady g st e new count
  one_done node new same register engine made others asked mine = record {
    counted = same ∙ ready.counted;
    registers = ap g.nodes register ∙ ready.registers;
    devices = ap (λ (m : Made). m.devices) made ∙ ready.devices;
    areas = ap (λ (m : Made). m.areas) made ∙ ready.areas;
    ready = λ n. ⊎_elim (λ same. subst (λ (k : ℕ). BeReady st e new k) (sym same) mine) (λ other. ready_still st e old new engine made n (others.others n other) (asked n other) (ready.ready n)) (same_or n node);
  }

  -- Something was done with none of them.
  pub none_done : {A F : Type 0} (result : Result A F) (fails : F) (new : Nodes G O S E T) → ((IsErrOf result fails → ⊥) → new.machines ≡ old.machines) → g.nodes new.register ≡ g.nodes old.register
      → st.made new.store ≡ st.made old.store → ((node : ℕ) → OnOk result (BeReady st e new node)) → OnOk result (IsReady g st e new count)
  none_done (Ok a) fails new machines registers made mine = record {
    counted = (let still : new.machines ≡ old.machines = machines (λ is. absurd cc) in rw still ready.counted);
    registers = registers ∙ ready.registers;
    devices = ap (λ (m : Made). m.devices) made ∙ ready.devices;
    areas = ap (λ (m : Made). m.areas) made ∙ ready.areas;
    ready = mine;
  }
  none_done (Err f) fails new machines registers made mine = tt
