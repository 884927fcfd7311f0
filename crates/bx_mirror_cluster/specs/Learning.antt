-- A node is handed a state, and knows it then.
use Rattle.std.specs.Prelude.{◌≡◌, ◌≢◌, ℕ, ◌<◌, ◌≤◌, ◌⊎◌, false, Some, None}
use Rattle.bx_base.specs.declared.names.Actor.TheVariants.{Node}
use Rattle.bx_facts.specs.Chains.{HasOwnBoot, IsPlace, session_of}
use Rattle.bx_facts.specs.Machines.{put_at}
use Rattle.bx_facts.specs.Writes.{StorePast}
use Rattle.bx_global.specs.declared.state.GlobalState.{GlobalState}
use Rattle.bx_mirror_client.specs.Asks.{FitsRead}
use Rattle.bx_mirror_client.specs.Streams.{Streaming}
use Rattle.bx_mirror_client.specs.declared.asking.Asking.{Asking}
use Rattle.bx_mirror_client.specs.declared.sending.Sending.{Sending}
use Rattle.bx_mirror_cluster.specs.Fitting.{Parts, out_by}
use Rattle.bx_mirror_cluster.specs.GoingOn.{IsSameRead}

-- What a node is handed: it is up, and the state is one of the chain, and no older than what it knew.
pub record MayLearn (parts : Parts) (past : StorePast) (node : ℕ) (known : GlobalState) : Type 0 where
  pub inside : node < parts.made.nodes
  pub itself : (parts.nodes node).node ≡ node
  pub up : past.told.down (Node node) ≡ false
  pub place : IsPlace past.told.chain known
  pub rises : past.told.knew (Node node) ≤ known.index
  pub own_boot : HasOwnBoot past.told.chain (past.told.boots (Node node))

-- the past once it knows a state of this index, and once a reading was handed in
abbrev pub knowing : StorePast → ℕ → ℕ → StorePast
knowing past node index = record past { told = record past.told { knew = put_at (Node node) index past.told.knew } }

abbrev pub with_clock : StorePast → ℕ → StorePast
with_clock past greatest = record past { told = record past.told { greatest = greatest } }

-- A stream knows the state: its session there, and the rows of the devices. Where it has another session than before its write isn't out any more.
pub record Learned (c : Streaming) (known : GlobalState) (new : Streaming) : Type 0 where
  pub node : new.node ≡ c.node
  pub boot : new.boot ≡ c.boot
  pub sequence : new.sequence ≡ c.sequence
  pub tag : new.tag ≡ c.tag
  pub session : new.session ≡ session_of known c.node c.boot
  pub rows : new.rows ≡ known.devices
  pub out : ((new.session ≡ c.session) × (out_by new.out ≡ out_by c.out)) ⊎ ((new.session ≢ c.session) × (out_by new.out ≡ None))
  pub noted : (s : Sending) → new.out ≡ Some s → c.out ≡ Some s
  pub holding : (s : Sending) → new.out ≡ Some s → new.session ≡ Some s.session
  pub asks : (a : Asking) → new.asks ≡ Some a → (new.session ≡ Some a.session) × ((was : Asking) × (c.asks ≡ Some was) × IsSameRead was a)
  pub askable : (a : Asking) → new.asks ≡ Some a → FitsRead a
