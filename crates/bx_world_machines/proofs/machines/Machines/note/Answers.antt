use Rattle.std.proofs.Common.{ap}
use Rattle.std.specs.Prelude.{max}
use Rattle.bx_facts.specs.declared.input.Input.TheVariants.{Tick}
use Rattle.bx_node_calls.specs.bx_nodes.specs.Taking.{with_reading}
use Rattle.bx_node_calls.specs.bx_nodes.specs.bx_node_events.proofs.Registered.{HandedLaws}
use Rattle.bx_world_machines.proofs.Reading.{stands_later}
use Rattle.bx_world_machines.proofs.machines.Machines.note.Goals as goal

pub returns-clause-ready : goal.returns-clause-ready
returns-clause-ready g c = λ sizes is_ready. rw c.read.ensures (record {
  are_ready = record {
    nodes = is_ready.are_ready.nodes;
    counted = is_ready.are_ready.counted;
    members = is_ready.are_ready.members;
    few = is_ready.are_ready.few;
    there = is_ready.are_ready.there;
    quiet = is_ready.are_ready.quiet;
    numbered = is_ready.are_ready.numbered;
  };
  replicas = is_ready.replicas;
  members = is_ready.members;
})

pub returns-clause-stands : goal.returns-clause-stands
returns-clause-stands g c = λ letters x tree course by_it.
    let standing = by_it.0 in
    let old = c.args.self.now in
    let laws : HandedLaws g.G.Register g.O.Owners g.S.Store = record {
      allowed = g.met.G.Register.allowed;
      legal = g.met.G.Register.legal;
      places = g.met.G.Register.places;
      registers_elsewhere = g.met.G.Register.elsewhere;
      registers_lose = g.met.G.Register.loses;
      lives = g.met.O.Owners.lives;
      apart = λ one past keeps. record { each = λ session other block hold other_hold has has_other ne is is_other. g.met.O.Owners.apart one past session other block hold other_hold keeps has has_other ne is is_other };
      alone = g.met.O.Owners.alone;
      owners_grow = g.met.O.Owners.grows;
      owners_lose = g.met.O.Owners.loses;
      own_out = g.met.S.Store.own_out;
      stores_grow = g.met.S.Store.grows;
      stores_elsewhere = g.met.S.Store.elsewhere;
      stores_lose = g.met.S.Store.loses;
    } in
    rw c.read.ensures (
      record {
        clocks = with_reading standing.clocks (Tick c.args.reading);
        course = standing.course;
        are_clocks = record { down = standing.are_clocks.down; boots = standing.are_clocks.boots; greatest = ap (λ n. max n c.args.reading) standing.are_clocks.greatest };
        stands = stands_later g.G.Register g.O.Owners g.S.Store g.E.Engine laws old.nodes x letters standing.clocks (Tick c.args.reading) standing.course tree standing.stands;
        came = standing.came;
        doubts = standing.doubts;
        known = standing.known;
      },
      by_it.1,
    )
