use Rattle.std.proofs.Common.{reverse, take, arith, sym, subst, ◌∙◌}
use Rattle.bx_schedule.specs.Doing.{AreTurns, turn_of}
use Rattle.bx_schedule.specs.Places.{Goes, place_of}
use Rattle.bx_schedule.proofs.Turning.{many_both, turn_more, turned_more}
use Rattle.bx_schedule.proofs.schedule.Schedule.take_turns.Goals as goal

pub loop-who-preserved : goal.loop-who-preserved
loop-who-preserved g c =
    let was = c.loop-who.invariant in
    let turn = c.in_ok-take_turn.ensures in
    let these = c.args.these.now in
    let event = turn_of c.args.down c.args.reading in
    let less = c.loop-who-test.true in
    let more = turn_more g.C.Shows.seen g.C.Cluster.led g.R.Rack event c.turn_of-event.result c.args.down _ (reverse (take c.loop-who.who-index these)) c.args.noise (place_of c.args.self.now) (place_of c.loop-who.self) (place_of c.take_turn.new.self) c.args.rack.now c.loop-who.rack c.take_turn.new.rack was.so c.turn_of-event.ensures turn.turn in
    record {
      so = subst (λ l. Goes g.C.Shows.seen g.C.Cluster.led g.R.Rack (AreTurns event c.args.down l) c.args.noise (place_of c.args.self.now) c.args.rack.now (place_of c.take_turn.new.self) c.take_turn.new.rack) (sym (turned_more these c.loop-who.who-index _ less)) more;
      can = turn.goes;
      events = let before = was.events in let counted = turn.counted in omega (arith, before, counted);
      many = many_both _ _ _ was.many turn.many;
      held = c.take_turn.ensures.same.0 ∙ was.held;
      clock = c.take_turn.ensures.same.1 ∙ was.clock;
    }
