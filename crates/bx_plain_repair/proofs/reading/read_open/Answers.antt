use Rattle.std.proofs.Common.{◌∙◌, arith, List, take, ap, subst}
use Rattle.bx_logs.specs.Logs.{points_in}
use Rattle.bx_logs.specs.Newest.{AreNewest}
use Rattle.bx_volume.specs.Records.{Logged}
use Rattle.bx_plain_repair.specs.declared.reading.OpenLog.{OpenLog}
use Rattle.bx_plain_repair.proofs.OpenLogs.{never_none, open_log, records_read}
use Rattle.bx_plain_repair.proofs.reading.read_open.Goals as goal

pub returns-in_default-clause-reads : goal.returns-in_default-clause-reads
returns-in_default-clause-reads g c = λ records before truth more tells found.
    never_none (g.R.Rack.state c.args.rack.now) records before truth more found (rw c.in_default.is at (c.in_ok-logs.ensures.none tells))

pub returns-clause-reads : goal.returns-clause-reads
returns-clause-reads g c = λ records before truth more tells found.
    let are = rw c.in-Some.is at (c.in_ok-logs.ensures.some tells) in
    let log : OpenLog = record { points = c.in_ok-points.points; newest = c.in_ok-newest.newest } in
    open_log c.in-Some.logs records log (omega arith) (records_read (g.R.Rack.state c.args.rack.now) records before truth more found c.in-Some.logs are)
    (c.in_ok-points.ensures ∙ ap (λ (l : List (List Logged)). points_in (take 1 l)) c.items.ensures)
    (subst (λ (l : List (List Logged)). AreNewest (take 1 l) c.in_ok-newest.newest) c.items.ensures c.in_ok-newest.ensures)
