use Rattle.std.proofs.Common.{Err, ap, arith, rules}
use Rattle.bx_base.specs.Faults.{Rose}
use Rattle.bx_replay.specs.Outcome.{IsShownBy}
use Rattle.bx_replay.proofs.ByRun.{not_playable}
use Rattle.bx_top.proofs.Completes.{among, breaks, completes, five_is, refused_early, refuses, refuses_at}
use Rattle.bx_top.proofs.replays.replay_bench.Goals as goal

pub returns-in-Err-clause-status : goal.returns-in-Err-clause-status
returns-in-Err-clause-status g c = among c.in-Err.stop c.report.result c.report.ensures.status

pub returns-in-Err-clause-complete : goal.returns-in-Err-clause-complete
returns-in-Err-clause-complete g c = λ source_tells schedule is served no_read no_write.
    completes (Rose (g.B.Rack.faults c.args.bench.now) (g.B.Rack.faults c.replay.new.bench)) (g.K.Sink.tells c.args.out.now × g.B.Rack.tells c.args.bench.now) (IsShownBy (g.B.Rack.state c.replay.new.bench)) c.in-Err.stop c.report.result _ _ _ _ schedule _ _ _ _ (g.B.Rack.tells c.args.bench.now) _ _ c.report.ensures.status c.in-Err.ensures.cause no_read no_write
    (c.in-Err.ensures.leaves source_tells) is served

pub returns-in-Ok-clause-refuses : goal.returns-in-Ok-clause-refuses
returns-in-Ok-clause-refuses g c = λ source_tells number reason told first no_read no_write.
    absurd (not_playable _ _ number reason told first (c.in-Ok.ensures.leaves source_tells).0)

pub returns-in-Err-clause-refuses : goal.returns-in-Err-clause-refuses
returns-in-Err-clause-refuses g c = λ source_tells number reason told first no_read no_write.
    refuses c.in-Err.stop c.report.result _ _ _ _ (g.B.Rack.tells c.args.bench.now) _ _ _ c.report.ensures.status c.in-Err.ensures.cause no_read no_write
    (λ is. refused_early (Rose (g.B.Rack.faults c.args.bench.now) (g.B.Rack.faults c.replay.new.bench)) (g.S.Source.left c.args.input.now) number reason told (c.in-Err.ensures.disk_when (ap Err is) source_tells) first)

pub returns-in-Err-clause-refused : goal.returns-in-Err-clause-refused
returns-in-Err-clause-refused g c = λ two.
    refuses_at (Rose (g.B.Rack.faults c.args.bench.now) (g.B.Rack.faults c.replay.new.bench)) (g.S.Source.tells c.args.input.now) (g.K.Sink.tells c.args.out.now × g.B.Rack.tells c.args.bench.now) (g.K.Sink.tells c.args.err.now) (IsShownBy (g.B.Rack.state c.replay.new.bench)) c.in-Err.stop c.report.result
    (g.S.Source.left c.args.input.now) (g.S.Source.left c.replay.new.input) (g.K.Sink.written c.args.out.now) (g.K.Sink.written c.replay.new.out)
    (g.K.Sink.written c.args.err.now) (g.K.Sink.written c.report.new.err) (g.K.Sink.faults c.args.err.now) (g.K.Sink.faults c.report.new.err)
    c.report.ensures.status c.in-Err.ensures.leaves c.report.ensures.told two

pub returns-in-Err-clause-broken : goal.returns-in-Err-clause-broken
returns-in-Err-clause-broken g c = λ broken source_tells sink_tells.
    breaks (Rose (g.B.Rack.faults c.args.bench.now) (g.B.Rack.faults c.replay.new.bench)) (g.K.Sink.tells c.args.out.now × g.B.Rack.tells c.args.bench.now) (IsShownBy (g.B.Rack.state c.replay.new.bench)) c.in-Err.stop c.report.result
    (g.S.Source.left c.args.input.now) (g.S.Source.left c.replay.new.input) (g.K.Sink.written c.args.out.now) (g.K.Sink.written c.replay.new.out)
    c.report.ensures.status (c.in-Err.ensures.leaves source_tells) broken sink_tells

pub returns-in-Err-clause-disk_when : goal.returns-in-Err-clause-disk_when
returns-in-Err-clause-disk_when g c = λ five source_tells. c.in-Err.ensures.disk_when (ap Err (five_is c.in-Err.stop c.report.result c.report.ensures.status five)) source_tells

-- a schedule that is done has no fault
pub returns-in-Ok-clause-read_fault : goal.returns-in-Ok-clause-read_fault
returns-in-Ok-clause-read_fault g c = λ three. absurd (omega (arith, three))

pub returns-in-Ok-clause-write_fault : goal.returns-in-Ok-clause-write_fault
returns-in-Ok-clause-write_fault g c = λ four. absurd (omega (arith, four))

pub returns-in-Ok-clause-disk_fault : goal.returns-in-Ok-clause-disk_fault
returns-in-Ok-clause-disk_fault g c = λ five. absurd (omega (arith, five))

pub returns-in-Ok-clause-disk_when : goal.returns-in-Ok-clause-disk_when
returns-in-Ok-clause-disk_when g c = λ five. absurd (omega (arith, five))

pub returns-in-Ok-clause-cut_off : goal.returns-in-Ok-clause-cut_off
returns-in-Ok-clause-cut_off g c = search rules

pub returns-in-Ok-clause-broken : goal.returns-in-Ok-clause-broken
returns-in-Ok-clause-broken g c = search rules

pub returns-in-Ok-clause-complete : goal.returns-in-Ok-clause-complete
returns-in-Ok-clause-complete g c = search rules
