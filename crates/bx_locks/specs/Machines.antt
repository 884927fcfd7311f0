-- All machines of the lock service: two lock servers, and a clerk for each node.
use Rattle.std.specs.Prelude.{◌≡◌, ◌≢◌, ℕ, ◌<◌, List, [], length, slice_index_or, None}
use Rattle.bx_base.specs.declared.names.Actor.{Actor}
use Rattle.bx_base.specs.declared.names.Actor.TheVariants.{Node, Server}
use Rattle.bx_clerk.specs.Clerks as clerks
use Rattle.bx_clerk.specs.Clerks.{Clerking}
use Rattle.bx_global.specs.declared.state.GlobalState.{GlobalState}
use Rattle.bx_master.specs.Masters as masters
use Rattle.bx_master.specs.Masters.{Mastering}

pub record LockMachines : Type 0 where
  pub masters : List Mastering
  pub clerks : List Clerking

-- one that isn't there knows nothing, and its node has no session
abbrev pub no_clerk : ℕ → Clerking
no_clerk node = record { node = node; boot = 0; drawn = 0; session = None; lease = 0; requests = []; asks = []; given = 0; knows = 0; server = 0 }

abbrev pub no_master : ℕ → Mastering
no_master server = record { server = server; boot = 0; term = None; seen = None; index = 0; last_dead = None; accounts = []; waiting = [] }

-- the clerk of a node, and a lock server
abbrev pub clerk_of : LockMachines → ℕ → Clerking
clerk_of o node = slice_index_or o.clerks node (no_clerk node)

abbrev pub master_of : LockMachines → ℕ → Mastering
master_of o server = slice_index_or o.masters server (no_master server)

abbrev pub nodes_of : LockMachines → ℕ
nodes_of o = length o.clerks

-- They are new ones of so many nodes, in a cluster that begins with a state.
pub record AreMade (nodes : ℕ) (s : GlobalState) (o : LockMachines) : Type 0 where
  pub nodes_are : nodes_of o ≡ nodes
  pub clerks : (node : ℕ) → node < nodes → clerk_of o node ≡ clerks.made node s
  pub masters : (server : ℕ) → server < 2 → master_of o server ≡ masters.made server s

-- Every other machine is as it was.
pub record OnlyMachine (who : Actor) (old new : LockMachines) : Type 0 where
  pub nodes : nodes_of new ≡ nodes_of old
  pub clerks : (node : ℕ) → who ≢ Node node → clerk_of new node ≡ clerk_of old node
  pub masters : (server : ℕ) → who ≢ Server server → master_of new server ≡ master_of old server
