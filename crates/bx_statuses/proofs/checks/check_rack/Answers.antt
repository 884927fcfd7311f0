use Rattle.bx_statuses.proofs.Refused.{among, completes, disk_fault, disk_first, listed_none, not_done, nothing, part, refused, refuses, sink_first, write_fault}
use Rattle.bx_statuses.specs.Report.{IsTold, refusal_line}
use Rattle.bx_statuses.proofs.checks.check_rack.Goals as goal

pub returns-in-Ok-clause-refuses : goal.returns-in-Ok-clause-refuses
returns-in-Ok-clause-refuses g c = λ tells none no_disk no_write. let listed = c.in-Ok.ensures.listed tells in absurd (listed_none (g.R.Rack.state c.args.rack.now) listed.0 listed.1 none)

pub returns-in-Err-clause-status : goal.returns-in-Err-clause-status
returns-in-Err-clause-status g c = among c.in-Err.failure c.refuse.result c.refuse.ensures.status

pub returns-in-Err-clause-listed : goal.returns-in-Err-clause-listed
returns-in-Err-clause-listed g c = λ zero. absurd (not_done c.in-Err.failure c.refuse.result c.refuse.ensures.status zero)

pub returns-in-Err-clause-stands : goal.returns-in-Err-clause-stands
returns-in-Err-clause-stands g c = λ zero. absurd (not_done c.in-Err.failure c.refuse.result c.refuse.ensures.status zero)

pub returns-in-Err-clause-silent : goal.returns-in-Err-clause-silent
returns-in-Err-clause-silent g c = λ zero. absurd (not_done c.in-Err.failure c.refuse.result c.refuse.ensures.status zero)

pub returns-in-Err-clause-refused : goal.returns-in-Err-clause-refused
returns-in-Err-clause-refused g c =
    refused (g.R.Rack.tells c.args.rack.now) (g.K.Sink.tells c.args.err.now) (g.R.Rack.state c.args.rack.now) c.in-Err.failure c.refuse.result
    (λ refusal. IsTold (g.K.Sink.written c.args.err.now) (g.K.Sink.written c.refuse.new.err) (g.K.Sink.faults c.args.err.now) (g.K.Sink.faults c.refuse.new.err) (refusal_line refusal))
    c.refuse.ensures.status c.in-Err.ensures.rightly c.refuse.ensures.refused

pub returns-in-Err-clause-complete : goal.returns-in-Err-clause-complete
returns-in-Err-clause-complete g c = λ tells tree stands. completes _ _ _ _ c.in-Err.failure c.refuse.result c.refuse.ensures.status c.in-Err.ensures.cause (c.in-Err.ensures.breaks tells tree stands)

pub returns-in-Err-clause-refuses : goal.returns-in-Err-clause-refuses
returns-in-Err-clause-refuses g c = λ tells none. refuses _ _ _ _ c.in-Err.failure c.refuse.result c.refuse.ensures.status c.in-Err.ensures.cause

pub returns-in-Err-clause-disk_fault : goal.returns-in-Err-clause-disk_fault
returns-in-Err-clause-disk_fault g c = disk_fault _ _ _ _ c.in-Err.failure c.refuse.result c.refuse.ensures.status c.in-Err.ensures.cause

pub returns-in-Err-clause-disk_first : goal.returns-in-Err-clause-disk_first
returns-in-Err-clause-disk_first g c = disk_first _ _ _ _ c.in-Err.failure c.refuse.result c.refuse.ensures.status c.in-Err.ensures.cause

pub returns-in-Err-clause-write_fault : goal.returns-in-Err-clause-write_fault
returns-in-Err-clause-write_fault g c = write_fault _ _ _ _ c.in-Err.failure c.refuse.result c.refuse.ensures.status c.in-Err.ensures.cause

pub returns-in-Err-clause-sink_first : goal.returns-in-Err-clause-sink_first
returns-in-Err-clause-sink_first g c = sink_first _ _ _ _ c.in-Err.failure c.refuse.result c.refuse.ensures.status c.in-Err.ensures.cause

pub returns-in-Err-clause-part : goal.returns-in-Err-clause-part
returns-in-Err-clause-part g c = λ four tells sink. part _ _ _ c.in-Err.failure c.refuse.result c.refuse.ensures.status (c.in-Err.ensures.output tells sink) four

pub returns-in-Err-clause-nothing : goal.returns-in-Err-clause-nothing
returns-in-Err-clause-nothing g c = λ other tells sink. nothing _ _ _ c.in-Err.failure c.refuse.result c.refuse.ensures.status (c.in-Err.ensures.output tells sink) other
