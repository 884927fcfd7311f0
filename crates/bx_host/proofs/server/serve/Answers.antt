use Rattle.std.proofs.Common.{ap, arith, sym, subst}
use Rattle.std.proofs.lemmas.Result.{err_from_is_err_and}
use Rattle.bx_host.specs.Standing.{CanGo}
use Rattle.bx_host.proofs.Ending.{keeps_both, keeps_none}
use Rattle.bx_host.proofs.Sendings.{keeps_same, keeps_then}
use Rattle.bx_host.proofs.Serving.{SoFar, can_begin, done_breaks, one_more, serve_breaks, sink_same, sink_then, so_begins}
use Rattle.bx_host.proofs.server.serve.Goals as goal

pub loop-init : goal.loop-init
loop-init g c =
    let is = c.begin_with-host.ensures in
    let events = ap (λ h. g.C.Cluster.events h.cluster) is in
    record {
      so = subst (λ h. SoFar g.C.Shows.seen g.C.Cluster.room g.C.Cluster.led g.R.Rack g.L.Link g.K.Clock g.S.Sink c.args.cluster c.args.rack.now c.args.link.now c.args.clock.now c.args.out.now h c.args.rack.now c.args.link.now c.args.clock.now c.args.out.now 0) (sym is)
          (so_begins g.C.Shows.seen g.C.Cluster.room g.C.Cluster.led g.R.Rack g.L.Link g.K.Clock g.S.Sink c.args.cluster c.args.rack.now c.args.link.now c.args.clock.now c.args.out.now);
      can = subst (λ h. CanGo g.C.Shows.seen g.C.Cluster.room g.C.Cluster.led g.R.Rack h c.args.rack.now) (sym is) (can_begin g.C.Shows.seen g.C.Cluster.room g.C.Cluster.led g.R.Rack g.L.Link g.K.Clock g.S.Sink c.args.cluster c.args.rack.now c.requires.node c.requires.disks c.requires.time c.requires.room);
      events = omega (arith, events);
      rack = keeps_none g.R.Rack c.args.rack.now;
      link = keeps_same g.L.Link c.args.link.now;
      out = sink_same g.S.Sink c.args.out.now;
    }

pub loop-preserved : goal.loop-preserved
loop-preserved g c =
    let was = c.loop.invariant in
    let turn = c.in_ok-turn.ensures in
    record {
      so = one_more g.C.Shows.seen g.C.Cluster.room g.C.Cluster.led g.R.Rack g.L.Link g.K.Clock g.S.Sink c.args.cluster c.args.rack.now c.args.link.now c.args.clock.now c.args.out.now c.loop.host c.turn.new.self c.loop.rack c.turn.new.rack c.loop.link c.turn.new.link c.loop.clock c.now-now.new.self c.loop.out c.turn.new.out c.loop.counter c.now-now.result
          was.rack.tells was.link.tells was.out.tells (λ readings gave. c.now-now.ensures.gave readings gave) was.so turn.does;
      can = turn.goes;
      events = omega (arith, turn.counted, was.events);
      rack = keeps_both g.R.Rack _ _ _ was.rack turn.rack;
      link = keeps_then g.L.Link _ _ _ was.link turn.link;
      out = sink_then g.S.Sink _ _ _ was.out turn.out;
    }

pub returns-in_err-turn-clause-breaks : goal.returns-in_err-turn-clause-breaks
returns-in_err-turn-clause-breaks g c =
    let p = err_from_is_err_and c.from_residual.result c.from_residual.ensures.1 in
    let was = c.loop.invariant in
    let less = c.loop-test.true in
    rw (p.1, p.2) (serve_breaks g.C.Shows.seen g.C.Cluster.room g.C.Cluster.led g.R.Rack g.L.Link g.K.Clock g.S.Sink g.C.Cluster.shown g.met.C.Cluster.shows c.args.cluster c.args.rack.now c.args.link.now c.args.clock.now c.args.out.now c.loop.host c.turn.new.self c.loop.rack c.turn.new.rack c.loop.link c.turn.new.link c.loop.clock c.loop.out c.loop.counter c.args.turns _
    was.rack.tells was.link.tells (omega (arith, less)) was.so c.in_err-turn.ensures.breaks)

pub returns-in_err-tell_done-clause-breaks : goal.returns-in_err-tell_done-clause-breaks
returns-in_err-tell_done-clause-breaks g c =
    let p = err_from_is_err_and c.from_residual-in_err-tell_done.result c.from_residual-in_err-tell_done.ensures.1 in
    rw (p.1, p.2) (done_breaks g.C.Shows.seen g.C.Cluster.room g.C.Cluster.led g.R.Rack g.L.Link g.K.Clock g.S.Sink g.C.Cluster.shown g.met.C.Cluster.shows c.args.cluster c.args.rack.now c.args.link.now c.args.clock.now c.args.out.now c.loop.host c.loop.rack c.loop.link c.loop.clock c.loop.out c.loop.counter c.args.turns _
    (omega arith) c.in_err-tell_done.ensures.why c.loop.invariant.so)
