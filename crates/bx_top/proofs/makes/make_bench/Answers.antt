use Rattle.bx_top.proofs.Making.{ends_badly, ends_well, told_as}
use Rattle.bx_top.proofs.makes.make_bench.Goals as goal

pub returns-in-Ok-clause-ends : goal.returns-in-Ok-clause-ends
returns-in-Ok-clause-ends g c =
    ends_well g.K.Sink g.B.Rack c.args.plan.seed c.args.plan.nodes c.args.plan.calls c.args.out.now c.make.new.out c.args.bench.now c.make.new.bench c.in-Ok.ensures.made c.in-Ok.ensures.dropped c.in-Ok.ensures.sink_first

pub returns-in-Err-clause-ends : goal.returns-in-Err-clause-ends
returns-in-Err-clause-ends g c =
    ends_badly g.K.Sink g.B.Rack c.args.plan.seed c.args.plan.nodes c.args.plan.calls c.args.out.now c.make.new.out c.args.bench.now c.make.new.bench c.report.result c.in-Err.stop
    c.report.ensures.status c.in-Err.ensures.cause c.in-Err.ensures.part c.in-Err.ensures.sink_first

pub returns-in-Err-clause-told : goal.returns-in-Err-clause-told
returns-in-Err-clause-told g c = λ other tells.
    told_as c.in-Err.stop c.report.result (g.K.Sink.faults c.args.out.now) (g.K.Sink.faults c.make.new.out) (g.B.Rack.tells c.args.bench.now) (g.B.Rack.faults c.args.bench.now) (g.B.Rack.faults c.make.new.bench)
    (g.K.Sink.written c.args.err.now) (g.K.Sink.written c.report.new.err) (g.K.Sink.faults c.args.err.now) (g.K.Sink.faults c.report.new.err) c.report.ensures.status c.in-Err.ensures.cause (c.report.ensures.told tells)
