-- A clock is read, and nothing else happens.
use Rattle.std.proofs.Common.{List}
use Rattle.bx_base.specs.declared.names.Actor.TheVariants.{Member}
use Rattle.bx_disk.specs.Disks.{Disks}
use Rattle.bx_facts.specs.declared.input.Input.{Input}
use Rattle.bx_facts.specs.declared.register.Register as register
use Rattle.bx_facts.specs.declared.store.Store as store
use Rattle.bx_node_steps.specs.Seen.{seen}
use Rattle.bx_node_calls.specs.bx_nodes.specs.Standing.{Stand}
use Rattle.bx_node_calls.specs.bx_nodes.specs.Taking.{with_reading}
use Rattle.bx_node_calls.specs.bx_nodes.specs.declared.nodes.Nodes.{Nodes}
use Rattle.bx_node_calls.specs.bx_nodes.specs.bx_node_events.proofs.Faulted.{read_later}
use Rattle.bx_node_calls.specs.bx_nodes.specs.bx_node_events.proofs.Registered.{HandedLaws}
use Rattle.bx_node_calls.specs.bx_nodes.specs.bx_node_events.proofs.Stopping.{but_for, but_none}
use Rattle.bx_facts.specs.declared.owners.Owners as owners
use Rattle.bx_post.specs.declared.packets.Letter.{Letter}
use Rattle.bx_views.specs.declared.engine.Engine as engine
use Rattle.bx_world_standing.specs.Parts.{Clocks}
use Rattle.bx_world_standing.specs.Standing.{Course}

-- all stands at the later clocks
pub stands_later : {G O S E T : Type 0} (g : register.Ghosts G) (o : owners.Ghosts O) (st : store.Ghosts S) (e : engine.Ghosts E T) → HandedLaws g o st → (nodes : Nodes G O S E T) (x : Disks) (letters : List Letter) (clocks : Clocks) (input : Input) (c : Course) (tree : T)
    → Stand g o st e nodes x letters clocks c tree → Stand g o st e nodes x letters (with_reading clocks input) c tree
stands_later g o st e laws nodes x letters clocks input c tree stands =
    but_none g o st (e.stands nodes.engine) (e.step nodes.engine) nodes.register nodes.owners nodes.store x (Member 0) letters (with_reading clocks input) (seen nodes.machines.items) c tree (λ node same. absurd cc)
    (read_later g o st (e.stands nodes.engine) (e.step nodes.engine) laws nodes.register nodes.owners nodes.store x (Member 0) letters clocks (seen nodes.machines.items) c tree input
    (but_for g o st (e.stands nodes.engine) (e.step nodes.engine) nodes.register nodes.owners nodes.store x (Member 0) letters clocks (seen nodes.machines.items) c tree stands))
