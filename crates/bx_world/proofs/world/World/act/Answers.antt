use Rattle.std.proofs.Common.{◌≡◌, None, refl, subst, arith}
use Rattle.bx_base.specs.declared.names.Actor.TheVariants.{Node}
use Rattle.bx_cluster.specs.Steps.{IsMoment}
use Rattle.bx_world_machines.specs.bx_node_calls.proofs.Found.{on_ok_then, on_ok_two}
use Rattle.bx_world_machines.specs.bx_nodes.proofs.Machines.{if_ok_so, ok_so}
use Rattle.bx_world_machines.specs.bx_nodes.specs.bx_node_events.proofs.Registered.{HandedLaws}
use Rattle.bx_world_machines.specs.bx_nodes.proofs.Moments.{MomentLaws}
use Rattle.bx_world.specs.Laws.{all_shown}
use Rattle.bx_world.specs.World.{seen}
use Rattle.bx_world.proofs.Acting.{arrives_of, call_goes_on, down_of, led_still, may_start, shows_blank, steady_of, still_leaves, there_of, up_of}
use Rattle.bx_world_events.specs.Refusals.{refusal}
use Rattle.bx_world_events.specs.declared.event.Event.TheVariants.{Call, Deliver, Restart, Sync, Tick}
use Rattle.bx_world.proofs.world.World.act.Given.{Over}
use Rattle.bx_world.proofs.world.World.act.Goals as goal

laws : (g : Over) → HandedLaws g.G.Register g.O.Owners g.S.Store
laws g = record {
  allowed = g.met.G.Register.allowed;
  legal = g.met.G.Register.legal;
  places = g.met.G.Register.places;
  registers_elsewhere = g.met.G.Register.elsewhere;
  registers_lose = g.met.G.Register.loses;
  lives = g.met.O.Owners.lives;
  apart = λ one past keeps. record { each = λ session other block hold other_hold has has_other ne is is_other. g.met.O.Owners.apart one past session other block hold other_hold keeps has has_other ne is is_other };
  alone = g.met.O.Owners.alone;
  owners_grow = g.met.O.Owners.grows;
  owners_lose = g.met.O.Owners.loses;
  own_out = g.met.S.Store.own_out;
  stores_grow = g.met.S.Store.grows;
  stores_elsewhere = g.met.S.Store.elsewhere;
  stores_lose = g.met.S.Store.loses;
}

moments : (g : Over) → MomentLaws g.G.Register g.S.Store
moments g = record {
  reads_next = g.met.G.Register.reads_next;
  settles = g.met.S.Store.settles;
  settled_is = g.met.S.Store.settled_is;
  labelled = g.met.S.Store.labelled;
}

pub call-requires : goal.call-requires
call-requires g c =
    let old = c.args.self.now in
    let event = Call c.in-Call.reading c.in-Call.node c.in-Call.client c.in-Call.bytes in
    let allowed : refusal (seen g.S.Store old) event ≡ None = subst (λ one. refusal (seen g.S.Store old) one ≡ None) c.in-Call.is c.requires.allowed in
    record {
      up = up_of g.S.Store old event allowed (Node c.in-Call.node) refl;
      ready = (_, c.requires.room.ready);
      steady = steady_of g.S.Store old event allowed c.in-Call.reading refl;
      time = subst IsMoment c.in-Call.is c.requires.moment;
      few = c.requires.few;
    }

pub tick-requires : goal.tick-requires
tick-requires g c =
    let old = c.args.self.now in
    let event = Tick c.in-Tick.reading c.in-Tick.at in
    let allowed : refusal (seen g.S.Store old) event ≡ None = subst (λ one. refusal (seen g.S.Store old) one ≡ None) c.in-Tick.is c.requires.allowed in
    record {
      up = up_of g.S.Store old event allowed c.in-Tick.at refl;
      ready = c.requires.room.ready;
      steady = steady_of g.S.Store old event allowed c.in-Tick.reading refl;
      time = subst IsMoment c.in-Tick.is c.requires.moment;
    }

pub deliver-requires : goal.deliver-requires
deliver-requires g c =
    let old = c.args.self.now in
    let event = Deliver c.in-Deliver.reading c.in-Deliver.number in
    let allowed : refusal (seen g.S.Store old) event ≡ None = subst (λ one. refusal (seen g.S.Store old) one ≡ None) c.in-Deliver.is c.requires.allowed in
    record {
      up = arrives_of g.S.Store old c.in-Deliver.reading c.in-Deliver.number allowed;
      ready = c.requires.room.ready;
      steady = steady_of g.S.Store old event allowed c.in-Deliver.reading refl;
      time = subst IsMoment c.in-Deliver.is c.requires.moment;
    }

pub sync-requires : goal.sync-requires
sync-requires g c =
    let old = c.args.self.now in
    let event = Sync c.in-Sync.at in
    let allowed : refusal (seen g.S.Store old) event ≡ None = subst (λ one. refusal (seen g.S.Store old) one ≡ None) c.in-Sync.is c.requires.allowed in
    record {
      up = up_of g.S.Store old event allowed c.in-Sync.at refl;
      ready = c.requires.room.ready;
    }

pub restart-requires : goal.restart-requires
restart-requires g c =
    let old = c.args.self.now in
    let event = Restart c.in-Restart.reading c.in-Restart.at in
    let allowed : refusal (seen g.S.Store old) event ≡ None = subst (λ one. refusal (seen g.S.Store old) one ≡ None) c.in-Restart.is c.requires.allowed in
    record {
      there = there_of g.S.Store old event allowed c.in-Restart.at refl;
      down = down_of g.S.Store old event allowed c.in-Restart.at refl;
      ready = c.requires.room.ready;
      steady = steady_of g.S.Store old event allowed c.in-Restart.reading refl;
      few = c.requires.few;
      boots = c.requires.room.boots;
    }

pub returns-in-Call-clause-shows : goal.returns-in-Call-clause-shows
returns-in-Call-clause-shows g c = rw c.in-Call.is c.call.ensures.shows

pub returns-in-Tick-clause-shows : goal.returns-in-Tick-clause-shows
returns-in-Tick-clause-shows g c = rw c.in-Tick.is c.tick.ensures.shows

pub returns-in-Deliver-clause-shows : goal.returns-in-Deliver-clause-shows
returns-in-Deliver-clause-shows g c = rw c.in-Deliver.is c.deliver.ensures.shows

pub returns-in-Sync-clause-shows : goal.returns-in-Sync-clause-shows
returns-in-Sync-clause-shows g c = rw c.in-Sync.is c.sync.ensures.shows

pub returns-in-Restart-clause-shows : goal.returns-in-Restart-clause-shows
returns-in-Restart-clause-shows g c = rw c.in-Restart.is c.restart.ensures.shows

pub returns-in-Crash-clause-shows : goal.returns-in-Crash-clause-shows
returns-in-Crash-clause-shows g c = rw (c.in-Crash.is, c.nothing.ensures) c.crash.ensures.shows

pub returns-in-Blank-clause-shows : goal.returns-in-Blank-clause-shows
returns-in-Blank-clause-shows g c = rw (c.in-Blank.is, c.nothing-in-Blank.ensures) (shows_blank g.S.Store c.args.self.now c.in-Blank.at)

pub returns-in-Tick-clause-led : goal.returns-in-Tick-clause-led
returns-in-Tick-clause-led g c = λ first parts tells led. rw c.in-Tick.is (c.tick.ensures.led first parts tells led)

pub returns-in-Deliver-clause-led : goal.returns-in-Deliver-clause-led
returns-in-Deliver-clause-led g c = λ first parts tells led. rw c.in-Deliver.is (c.deliver.ensures.led first parts tells led)

pub returns-in-Sync-clause-led : goal.returns-in-Sync-clause-led
returns-in-Sync-clause-led g c = λ first parts tells led. rw c.in-Sync.is (c.sync.ensures.led first parts tells led)

pub returns-in-Call-clause-led : goal.returns-in-Call-clause-led
returns-in-Call-clause-led g c = λ first parts tells led. rw c.in-Call.is (c.call.ensures.led (g.R.Rack.state c.args.rack.now) first parts led)

pub returns-in-Restart-clause-led : goal.returns-in-Restart-clause-led
returns-in-Restart-clause-led g c = λ first parts tells led.
    rw c.in-Restart.is (c.restart.ensures.led first parts tells (may_start g.G.Register g.O.Owners g.S.Store g.E.Engine c.args.self.now (g.R.Rack.state c.args.rack.now) first parts led c.requires.room.restarts c.in-Restart.at) led)

pub returns-in-Crash-clause-led : goal.returns-in-Crash-clause-led
returns-in-Crash-clause-led g c = λ first parts tells led. rw (c.in-Crash.is, c.nothing.ensures) (c.crash.ensures.led (g.R.Rack.state c.args.rack.now) first parts led)

pub returns-in-Blank-clause-led : goal.returns-in-Blank-clause-led
returns-in-Blank-clause-led g c = λ first parts tells led. rw (c.in-Blank.is, c.nothing-in-Blank.ensures) (led_still g.G.Register g.O.Owners g.S.Store g.E.Engine c.args.self.now (g.R.Rack.state c.args.rack.now) first parts led)

pub returns-in-Call-clause-any_moment : goal.returns-in-Call-clause-any_moment
returns-in-Call-clause-any_moment g c = λ first parts tells led.
    let rack = c.args.rack.now in
    still_leaves (g.R.Rack.moment rack) (g.R.Rack.left_since rack) _
    (λ image left. all_shown g.G.Register g.O.Owners g.S.Store g.E.Engine c.args.self.now (g.R.Rack.state rack) first parts led (laws g) (moments g) image (g.met.R.Rack.only_now rack image tells left))

pub returns-in-Crash-clause-any_moment : goal.returns-in-Crash-clause-any_moment
returns-in-Crash-clause-any_moment g c = λ first parts tells led.
    let rack = c.args.rack.now in
    still_leaves (g.R.Rack.moment rack) (g.R.Rack.left_since rack) _
    (λ image left. all_shown g.G.Register g.O.Owners g.S.Store g.E.Engine c.args.self.now (g.R.Rack.state rack) first parts led (laws g) (moments g) image (g.met.R.Rack.only_now rack image tells left))

pub returns-in-Blank-clause-any_moment : goal.returns-in-Blank-clause-any_moment
returns-in-Blank-clause-any_moment g c = λ first parts tells led.
    let rack = c.args.rack.now in
    still_leaves (g.R.Rack.moment rack) (g.R.Rack.left_since rack) _
    (λ image left. all_shown g.G.Register g.O.Owners g.S.Store g.E.Engine c.args.self.now (g.R.Rack.state rack) first parts led (laws g) (moments g) image (g.met.R.Rack.only_now rack image tells left))

pub returns-in-Tick-clause-room : goal.returns-in-Tick-clause-room
returns-in-Tick-clause-room g c = λ sizes room.
    let said = c.tick.ensures in
    on_ok_then _ _ c.tick.result (λ ready. record { ready = ready; restarts = room.restarts; boots = rw (said.stays.0, said.events) room.boots }) (said.ready sizes room.ready)

pub returns-in-Deliver-clause-room : goal.returns-in-Deliver-clause-room
returns-in-Deliver-clause-room g c = λ sizes room.
    let said = c.deliver.ensures in
    on_ok_then _ _ c.deliver.result (λ ready. record { ready = ready; restarts = room.restarts; boots = rw (said.stays.0, said.events) room.boots }) (said.ready sizes room.ready)

pub returns-in-Sync-clause-room : goal.returns-in-Sync-clause-room
returns-in-Sync-clause-room g c = λ sizes room.
    let said = c.sync.ensures in
    on_ok_then _ _ c.sync.result (λ ready. record { ready = ready; restarts = room.restarts; boots = rw (said.stays.0, said.events) room.boots }) (said.ready sizes room.ready)

pub returns-in-Call-clause-room : goal.returns-in-Call-clause-room
returns-in-Call-clause-room g c = λ sizes room.
    let said = c.call.ensures in
    on_ok_two _ _ _ c.call.result (λ ready events. record { ready = ready; restarts = room.restarts; boots = let low = room.boots in let same = said.stays.0 in omega (arith, low, same, events) }) (said.ready sizes room.ready) said.events

pub returns-in-Restart-clause-room : goal.returns-in-Restart-clause-room
returns-in-Restart-clause-room g c = λ sizes room.
    let said = c.restart.ensures in
    on_ok_then _ _ c.restart.result (λ ready. record { ready = ready; restarts = room.restarts; boots = let low = room.boots in let boots = said.boots in let events = said.events in omega (arith, low, boots, events) })
    (said.ready sizes room.restarts.separate.1 room.ready)

pub returns-in-Crash-clause-room : goal.returns-in-Crash-clause-room
returns-in-Crash-clause-room g c = λ sizes room.
    let said = c.crash.ensures in
    record { ready = said.ready sizes room.ready; restarts = room.restarts; boots = rw (said.stays.0, said.same.1) room.boots }

pub returns-in-Call-clause-counted : goal.returns-in-Call-clause-counted
returns-in-Call-clause-counted g c = rw c.in-Call.is c.call.ensures.events

pub returns-in-Tick-clause-counted : goal.returns-in-Tick-clause-counted
returns-in-Tick-clause-counted g c = rw c.in-Tick.is (ok_so _ c.tick.result c.tick.ensures.events)

pub returns-in-Deliver-clause-counted : goal.returns-in-Deliver-clause-counted
returns-in-Deliver-clause-counted g c = rw c.in-Deliver.is (ok_so _ c.deliver.result c.deliver.ensures.events)

pub returns-in-Sync-clause-counted : goal.returns-in-Sync-clause-counted
returns-in-Sync-clause-counted g c = rw c.in-Sync.is (ok_so _ c.sync.result c.sync.ensures.events)

pub returns-in-Restart-clause-counted : goal.returns-in-Restart-clause-counted
returns-in-Restart-clause-counted g c = rw c.in-Restart.is (ok_so _ c.restart.result c.restart.ensures.events)

pub returns-in-Crash-clause-counted : goal.returns-in-Crash-clause-counted
returns-in-Crash-clause-counted g c = rw c.in-Crash.is c.crash.ensures.same.1

pub returns-in-Blank-clause-counted : goal.returns-in-Blank-clause-counted
returns-in-Blank-clause-counted g c = rw c.in-Blank.is refl

pub returns-in-Call-clause-stopped : goal.returns-in-Call-clause-stopped
returns-in-Call-clause-stopped g c =
    if_ok_so _ _ c.call.result (λ outcome arrives some. absurd (let none = call_goes_on g.G.Register g.O.Owners g.S.Store g.E.Engine _ _ _ _ _ _ _ outcome arrives in cc)) (c.call.ensures.arrives (g.R.Rack.state c.args.rack.now))
