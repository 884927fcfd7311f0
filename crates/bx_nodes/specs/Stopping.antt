-- What is left of a machine that stopped.
use Rattle.std.specs.Prelude.{◌≡◌, ◌≢◌, ℕ, ◌+◌, true, false, List, [], length, None, IfSome, IsSomeAnd, slice_get}
use Rattle.bx_base.specs.declared.names.Actor.{Actor}
use Rattle.bx_base.specs.declared.names.Actor.TheVariants.{Node, Replica, Member}
use Rattle.bx_facts.specs.declared.register.Register as register
use Rattle.bx_facts.specs.declared.store.Store as store
use Rattle.bx_facts.specs.Machines.{put_at}
use Rattle.bx_node_steps.specs.declared.machine.Fetch.TheVariants as fetches
use Rattle.bx_node_steps.specs.declared.machine.Machine.{Machine}
use Rattle.bx_node_steps.specs.declared.machine.Stage.TheVariants as stages
use Rattle.bx_redo.specs.Steps.{closed_log}
use Rattle.bx_world_standing.specs.Parts.{Clocks}

-- the clocks, where a machine is down
abbrev pub with_down : Clocks → Actor → Clocks
with_down clocks who = record clocks { down = put_at who true clocks.down }

-- A node of a volume of so many devices and areas that has nothing: no session, blocks, hints or calls; its log rests, it reads nothing, no tick came, and no tidy is under way.
pub record HasNothing (devices areas : ℕ) (machine : Machine) : Type 0 where
  pub session : machine.session ≡ None
  pub cache : machine.cache ≡ record { devices = devices; areas = areas; kept = []; hinted = [] }
  pub log : machine.log ≡ closed_log 0 0
  pub idle : machine.stage ≡ stages.Idle
  pub reads : machine.fetch ≡ fetches.Nothing
  pub calls : machine.calls.items ≡ []
  pub mark : machine.mark ≡ None
  pub ticks : machine.ticks ≡ 0
  pub tidy : machine.tidy ≡ None

-- A machine that stopped, where it is a node, has nothing; all other nodes are as they were.
pub record Empties (who : Actor) (old new : List Machine) : Type 0 where
  pub empty : (node : ℕ) → who ≡ Node node → IfSome (slice_get old node) (λ before. IsSomeAnd (slice_get new node) (HasNothing before.cache.devices before.cache.areas))
  pub others : (node : ℕ) → who ≢ Node node → slice_get new node ≡ slice_get old node
  pub count : length new ≡ length old

-- A machine is down: it needs nothing of its disk and owes no answer; where it is a node, the store has no session of it, and nothing of it is out.
pub record IsDown {G S : Type 0} (g : register.Ghosts G) (st : store.Ghosts S) (register_is : G) (store_is : S) (who : Actor) : Type 0 where
  pub replica : (n : ℕ) → who ≡ Replica n → g.needs register_is n ≡ 0
  pub member : (n : ℕ) → who ≡ Member n → st.needs store_is (3 + n) ≡ 0
  pub still : st.owes store_is who ≡ false
  pub ended : (node : ℕ) → who ≡ Node node → (st.own store_is node ≡ None) × (st.out_of store_is node ≡ None) × (st.asked store_is node ≡ None)
