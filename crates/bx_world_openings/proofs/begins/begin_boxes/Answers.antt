use Rattle.std.proofs.Common.{◌≡◌, ◌≤◌, ap, arith}
use Rattle.bx_closings.specs.bx_devices.specs.contracts.store.DevicesStore.TheImpl as devices
use Rattle.bx_closings.specs.bx_world.specs.World.{seen}
use Rattle.bx_cluster_parts.specs.Made.{made_by}
use Rattle.bx_facts.specs.Writes.{Made}
use Rattle.bx_world_openings.proofs.Firsts.{all_up}
use Rattle.bx_world_openings.proofs.Restarting.{let_restart}
use Rattle.bx_world_openings.proofs.begins.begin_boxes.Goals as goal

pub begin-requires-2 : goal.begin-requires-2
begin-requires-2 g c = record { first = c.in_ok-machines.ensures.begins.3 }

pub returns-clause-led : goal.returns-clause-led
returns-clause-led g c = λ tells.
    let parts = c.in_ok-parts.ensures in
    let rests = parts.rests tells in
    let stands = c.in_ok-machines.ensures.stands _ rests.0 (parts.new tells) rests.1 in
    let made : devices.ghosts.made c.in_ok-world.world.machines.nodes.store ≡ made_by c.args.volume c.args.shape.nodes c.args.shape.devices c.args.shape.areas = rw c.in_ok-world.ensures.begins.0 c.in_ok-machines.ensures.made in
    record {
      led = c.in_ok-world.ensures.led _ _ stands.0 stands.1 stands.2 c.in_ok-machines.ensures.none_wait;
      volume = ap (λ (m : Made). m.volume) made;
      areas = ap (λ (m : Made). m.areas) made;
    }

pub returns-clause-new : goal.returns-clause-new
returns-clause-new g c =
    let shape = c.args.shape in
    let machines = c.in_ok-machines.ensures.begins in
    let world = c.in_ok-world.ensures.begins in
    record {
      nodes = rw world.0 machines.4;
      devices = rw world.0 machines.5;
      post = world.1;
      greatest = rw world.0 machines.1;
      up = λ who there. all_up (seen devices.ghosts c.in_ok-world.world) c.in_ok-world.world.machines.up.items shape.nodes shape.devices (rw world.0 machines.4) (rw world.0 machines.5) (rw world.0 machines.0) who there;
    }

pub returns-clause-room : goal.returns-clause-room
returns-clause-room g c = record {
  ready = c.in_ok-world.ensures.ready _ (c.in_ok-machines.ensures.ready _ c.in_ok-parts.ensures.sizes);
  restarts = let_restart;
  boots = let world = c.in_ok-world.ensures.begins in let none : c.in_ok-world.world.machines.boots ≡ 0 = rw world.0 c.in_ok-machines.ensures.begins.2 in omega (arith, none);
}

pub returns-clause-events : goal.returns-clause-events
returns-clause-events g c = c.in_ok-world.ensures.begins.4
