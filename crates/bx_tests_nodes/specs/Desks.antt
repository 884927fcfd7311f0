-- Nodes that are driven by hand.
use Rattle.std.specs.Prelude.{◌≡◌, ℕ, length}
use Rattle.bx_facts.specs.declared.register.Register as register
use Rattle.bx_facts.specs.declared.store.Store as store
use Rattle.bx_nodes.specs.Standing.{BeReady}
use Rattle.bx_nodes.specs.declared.nodes.Nodes.{Nodes}
use Rattle.bx_views.specs.declared.engine.Engine as engine

-- There are so many nodes, for a volume of one device and one area, and each may use its parts.
pub record IsReady {G O S E T : Type 0} (g : register.Ghosts G) (st : store.Ghosts S) (e : engine.Ghosts E T) (nodes : Nodes G O S E T) (count : ℕ) : Type 0 where
  pub counted : length nodes.machines.items ≡ count
  pub registers : g.nodes nodes.register ≡ count
  pub devices : (st.made nodes.store).devices ≡ 1
  pub areas : (st.made nodes.store).areas ≡ 1
  pub ready : (node : ℕ) → BeReady st e nodes node
