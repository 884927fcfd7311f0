-- A node of which nothing changes may use its parts still.
use Rattle.std.proofs.Common.{◌≡◌, ℕ, Option, IfSome, sym, subst}
use Rattle.std.specs.Prelude.{slice_get}
use Rattle.bx_facts.specs.declared.store.Store as store
use Rattle.bx_facts.specs.Writes.{Asked, Made}
use Rattle.bx_node_steps.specs.Ready.{WasReady}
use Rattle.bx_node_steps.specs.declared.machine.Machine.{Machine}
use Rattle.bx_nodes.specs.Standing.{BeReady}
use Rattle.bx_nodes.specs.declared.nodes.Nodes.{Nodes}
use Rattle.bx_views.specs.declared.engine.Engine as engine

module _ {G O S E T : Type 0} (st : store.Ghosts S) (e : engine.Ghosts E T) (old new : Nodes G O S E T) (engine_same : new.engine ≡ old.engine) (made_same : st.made new.store ≡ st.made old.store) where
  pub ready_still : (node : ℕ) → slice_get new.machines.items node ≡ slice_get old.machines.items node → st.asked new.store node ≡ st.asked old.store node → BeReady st e old node → BeReady st e new node
  ready_still node machine asked ready =
      subst (λ (m : Option Machine). IfSome m (WasReady (st.made new.store) (e.areas new.engine) (st.asked new.store node))) (sym machine)
      (subst (λ (a : Option Asked). IfSome (slice_get old.machines.items node) (WasReady (st.made new.store) (e.areas new.engine) a)) (sym asked)
      (subst (λ (en : E). IfSome (slice_get old.machines.items node) (WasReady (st.made new.store) (e.areas en) (st.asked old.store node))) (sym engine_same)
      (subst (λ (m : Made). IfSome (slice_get old.machines.items node) (WasReady m (e.areas old.engine) (st.asked old.store node))) (sym made_same) ready)))
