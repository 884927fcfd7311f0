use Rattle.std.proofs.Common.{◌++◌, ap}
use Rattle.bx_base.specs.Faults.{Rose}
use Rattle.bx_outside.specs.Memory.{Writing}
use Rattle.bx_replay.specs.Outcome.{IsShownBy}
use Rattle.bx_make.proofs.Refused.{cause_is, replayed_is}
use Rattle.bx_make.proofs.makes.traced.Goals as goal

pub returns-in-Ok-clause-replayed : goal.returns-in-Ok-clause-replayed
returns-in-Ok-clause-replayed g c = λ tells.
    replayed_is (Rose (g.B.Rack.faults c.args.bench.now) (g.B.Rack.faults c.replay.new.bench)) (Unit {0} × g.B.Rack.tells c.args.bench.now) (IsShownBy (g.B.Rack.state c.replay.new.bench))
    c.args.plan.seed c.args.plan.nodes c.args.plan.calls (c.in_ok-source.source.ahead ++ c.in_ok-source.source.behind) (c.replay.new.input.ahead ++ c.replay.new.input.behind)
    c.in_ok-trace.trace.written c.replay.new.out.written
    (ap (λ (w : Writing). w.written) c.in_ok-trace.ensures) c.in_ok-source.ensures.text (tt, tells) (c.in-Ok.ensures.leaves tt)

pub returns-clause-cause : goal.returns-clause-cause
returns-clause-cause g c =
    rw c.cause_of.ensures (
    cause_is (Unit {0} × g.B.Rack.tells c.args.bench.now) (g.B.Rack.tells c.args.bench.now) (IsShownBy (g.B.Rack.state c.replay.new.bench)) c.in-Err.stop
    c.args.plan.seed c.args.plan.nodes c.args.plan.calls (c.in_ok-source.source.ahead ++ c.in_ok-source.source.behind) (c.replay.new.input.ahead ++ c.replay.new.input.behind)
    c.in_ok-trace.trace.written c.replay.new.out.written c.in_ok-source.source.faults c.replay.new.input.faults c.in_ok-trace.trace.faults c.replay.new.out.faults
    (g.B.Rack.faults c.args.bench.now) (g.B.Rack.faults c.replay.new.bench) c.new.ensures.fits c.requires.some c.requires.most c.requires.few c.in_ok-source.ensures.text
    c.in-Err.ensures.cause (c.in-Err.ensures.leaves tt))
