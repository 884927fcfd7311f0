use Rattle.std.proofs.Common.{[], ◌+◌, refl, subst, ◌∙◌}
use Rattle.std.proofs.lemmas.Result.{err_from_is_err_and}
use Rattle.bx_base.specs.declared.names.Actor.TheVariants.{Server}
use Rattle.bx_host.specs.Standing.{AreAny}
use Rattle.bx_host.specs.Turns.{AreTicked, IsTicked}
use Rattle.bx_host.proofs.Acting.{goes_both, goes_err, goes_none}
use Rattle.bx_host.proofs.Going.{ticked_more}
use Rattle.bx_host.proofs.host.Host.tick_servers.Goals as goal

pub loop-server-init : goal.loop-server-init
loop-server-init g c = record {
  so = goes_none g.C.Shows.seen g.C.Cluster.room g.C.Cluster.led g.R.Rack (AreTicked Server c.args.self.now.reading 0) c.args.self.now c.args.rack.now (record { none = refl; same = refl });
  can = c.requires.goes;
  events = refl;
}

pub loop-server-preserved : goal.loop-server-preserved
loop-server-preserved g c =
    let was = c.loop-server.invariant in
    let n = c.loop-server.server in
    let reading = c.args.self.now.reading in
    record {
      so = goes_both g.C.Shows.seen g.C.Cluster.room g.C.Cluster.led g.R.Rack (AreTicked Server reading n) (IsTicked c.loop-server.self.reading (Server n)) (AreTicked Server reading (n + 1)) [] [] c.args.self.now c.loop-server.self c.tick.new.self c.args.rack.now c.loop-server.rack c.tick.new.rack _ tt
          (λ earlier later middle from to are is. ticked_more Server reading n from middle to earlier later are (subst (λ r. IsTicked r (Server n) middle later to) was.so.reading is)) was.so c.in_ok-tick.ensures.ends;
      can = c.in_ok-tick.ensures.goes;
      events = c.in_ok-tick.ensures.counted ∙ was.events;
    }

pub returns-in_err-tick-clause-ends : goal.returns-in_err-tick-clause-ends
returns-in_err-tick-clause-ends g c =
    let p = err_from_is_err_and c.from_residual.result c.from_residual.ensures.1 in
    let was = c.loop-server.invariant in
    let n = c.loop-server.server in
    rw (p.1, p.2) (goes_err g.C.Shows.seen g.C.Cluster.room g.C.Cluster.led g.R.Rack (Unit {0}) (Unit {0}) AreAny (AreTicked Server c.args.self.now.reading 2) [] c.args.self.now c.tick.new.self c.args.rack.now c.tick.new.rack _
    (goes_both g.C.Shows.seen g.C.Cluster.room g.C.Cluster.led g.R.Rack (AreTicked Server c.args.self.now.reading n) (IsTicked c.loop-server.self.reading (Server n)) AreAny [] [] c.args.self.now c.loop-server.self c.tick.new.self c.args.rack.now c.loop-server.rack c.tick.new.rack _ tt (λ earlier later middle from to are is. tt) was.so c.in_err-tick.ensures.ends))
