use Rattle.std.proofs.Common.{◌≡◌, [], ◌+◌, arith, refl, subst, ◌∙◌}
use Rattle.std.proofs.lemmas.Result.{err_from_is_err_and}
use Rattle.bx_base.specs.declared.names.Actor.TheVariants.{Member}
use Rattle.bx_host.specs.Standing.{AreAny}
use Rattle.bx_host.specs.Steps.{IsAt}
use Rattle.bx_host.specs.Turns.{AreMembersTicked, AreTicked, IsTicked}
use Rattle.bx_host.proofs.Acting.{goes_both, goes_err, goes_none}
use Rattle.bx_host.proofs.Going.{devices_stay, ticked_more}
use Rattle.bx_host.proofs.host.Host.tick_members.Goals as goal

pub loop-member-init : goal.loop-member-init
loop-member-init g c = record {
  so = goes_none g.C.Shows.seen g.C.Cluster.room g.C.Cluster.led g.R.Rack (AreTicked Member c.args.self.now.reading 0) c.args.self.now c.args.rack.now (record { none = refl; same = refl });
  can = c.requires.goes;
  events = refl;
}

pub loop-member-preserved : goal.loop-member-preserved
loop-member-preserved g c =
    let was = c.loop-member.invariant in
    let n = c.loop-member.member in
    let reading = c.args.self.now.reading in
    record {
      so = goes_both g.C.Shows.seen g.C.Cluster.room g.C.Cluster.led g.R.Rack (AreTicked Member reading n) (IsTicked c.loop-member.self.reading (Member n)) (AreTicked Member reading (n + 1)) [] [] c.args.self.now c.loop-member.self c.tick.new.self c.args.rack.now c.loop-member.rack c.tick.new.rack _ tt
          (λ earlier later middle from to are is. ticked_more Member reading n from middle to earlier later are (subst (λ r. IsTicked r (Member n) middle later to) was.so.reading is)) was.so c.in_ok-tick.ensures.ends;
      can = c.in_ok-tick.ensures.goes;
      events = c.in_ok-tick.ensures.counted ∙ was.events;
    }

pub returns-in_err-tick-clause-ends : goal.returns-in_err-tick-clause-ends
returns-in_err-tick-clause-ends g c =
    let p = err_from_is_err_and c.from_residual.result c.from_residual.ensures.1 in
    let was = c.loop-member.invariant in
    let n = c.loop-member.member in
    rw (p.1, p.2) (goes_err g.C.Shows.seen g.C.Cluster.room g.C.Cluster.led g.R.Rack (Unit {0}) (Unit {0}) AreAny (AreMembersTicked c.args.self.now.reading) [] c.args.self.now c.tick.new.self c.args.rack.now c.tick.new.rack _
    (goes_both g.C.Shows.seen g.C.Cluster.room g.C.Cluster.led g.R.Rack (AreTicked Member c.args.self.now.reading n) (IsTicked c.loop-member.self.reading (Member n)) AreAny [] [] c.args.self.now c.loop-member.self c.tick.new.self c.args.rack.now c.loop-member.rack c.tick.new.rack _ tt (λ earlier later middle from to are is. tt) was.so c.in_err-tick.ensures.ends))

pub tick-requires-clause-there : goal.tick-requires-clause-there
tick-requires-clause-there g c =
    let was = c.loop-member.invariant in
    let same = devices_stay (IsAt c.args.self.now.reading) _ was.so.ends.steps _ was.so.ends.along in
    let ends = c.devices-member-end.ensures in
    let less = c.loop-member-test.true in
    let a : (g.C.Shows.seen c.loop-member.self.cluster).devices ≡ (g.C.Shows.seen c.args.self.now.cluster).devices = same in
    omega (arith, less, ends, a)
