-- What comes to a machine, and what becomes of it.
use Rattle.std.specs.Prelude.{◌≡◌, ℕ, ◌<◌, List, Option, None, if◌then◌else◌}
use Rattle.bx_base.specs.declared.names.Actor.{Actor}
use Rattle.bx_base.specs.declared.names.Actor.TheVariants.{Node, Replica, Server, Member}
use Rattle.bx_clerk.specs.Clerks as clerks
use Rattle.bx_clerk.specs.Clerks.{Clerking}
use Rattle.bx_clerk.specs.Events as clerk_events
use Rattle.bx_facts.specs.Machines.{is_same}
use Rattle.bx_facts.specs.declared.input.Input.{Input}
use Rattle.bx_facts.specs.declared.input.Input.TheVariants.{Packet, Tick, Synced}
use Rattle.bx_global.specs.declared.change.Change.{Change}
use Rattle.bx_global.specs.declared.state.GlobalState.{GlobalState}
use Rattle.bx_master.specs.Events as master_events
use Rattle.bx_master.specs.Masters as masters
use Rattle.bx_master.specs.Masters.{Mastering, both}
use Rattle.bx_master.specs.Steps as master_steps
use Rattle.bx_post.specs.declared.packets.Letter.{Letter}
use Rattle.bx_locks.specs.Machines.{LockMachines, clerk_of, master_of, nodes_of}

-- a packet for another machine says nothing to this one
abbrev pub input_for : Actor → Input → Input
input_for at (Packet packet reading) = if is_same at packet.now.to then Packet packet reading else Synced
input_for at (Tick reading) = Tick reading
input_for at Synced = Synced

-- One machine takes an input, as a clerk or a lock server does; others have nothing to do with locks.
abbrev pub TakesAt : Actor → GlobalState → Input → LockMachines → LockMachines → Option Change → List Letter → List Letter → Type 0
TakesAt (Node node) known input old new change before after = clerk_events.Takes (clerk_of old node) known input (clerk_of new node) change before after
TakesAt (Replica n) known input old new change before after = (new ≡ old) × (change ≡ None) × (after ≡ before)
TakesAt (Server server) known input old new change before after = master_steps.Takes (master_of old server) known input (master_of new server) change before after
TakesAt (Member n) known input old new change before after = (new ≡ old) × (change ≡ None) × (after ≡ before)

-- One machine starts again, where it is there.
abbrev pub RestartsAt : Actor → ℕ → LockMachines → LockMachines → Type 0
RestartsAt (Node node) boot old new = node < nodes_of old → clerk_of new node ≡ clerks.restarted boot (clerk_of old node)
RestartsAt (Replica n) boot old new = new ≡ old
RestartsAt (Server server) boot old new = server < 2 → master_of new server ≡ masters.restarted boot (master_of old server)
RestartsAt (Member n) boot old new = new ≡ old

-- ---- the change that is handed back: only at a tick there is one

abbrev pub clerk_hands : GlobalState → Input → Clerking → Option Change
clerk_hands known (Packet packet reading) c = None
clerk_hands known (Tick reading) c = clerk_events.tick_change (clerks.learned known c).session (clerks.learned known c) reading
clerk_hands known Synced c = None

abbrev pub master_hands : GlobalState → Input → Mastering → Option Change
master_hands known (Packet packet reading) m = None
master_hands known (Tick reading) m = master_events.change_of known reading (both (master_events.catch_up known reading) (master_events.tick known) m).0
master_hands known Synced m = None

abbrev pub handed_at : Actor → GlobalState → Input → LockMachines → Option Change
handed_at (Node node) known input o = clerk_hands known input (clerk_of o node)
handed_at (Replica n) known input o = None
handed_at (Server server) known input o = master_hands known input (master_of o server)
handed_at (Member n) known input o = None
