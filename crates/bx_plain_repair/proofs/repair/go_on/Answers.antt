use Rattle.std.proofs.Common.{⊎_elim, inl, inr, List, sym, subst}
use Rattle.bx_volume.specs.Records.{Logged, newest_in}
use Rattle.bx_plain_repair.specs.HomesOf.{HasNone}
use Rattle.bx_plain_repair.specs.Left.{IsLeft}
use Rattle.bx_plain_repair.specs.Resting.{RestsOrActed, IsOpenLog}
use Rattle.bx_plain_repair.proofs.Finding.{found_of}
use Rattle.bx_plain_repair.proofs.OpenLogs.{all_parts}
use Rattle.bx_plain_repair.proofs.Results.{on_err, rose_since}
use Rattle.bx_plain_repair.proofs.Sparing.{spares_same, spares_then}
use Rattle.bx_plain_repair.proofs.repair.go_on.Goals as goal

pub returns-in_err-log-clause-left : goal.returns-in_err-log-clause-left
returns-in_err-log-clause-left g c = λ volume tree doubt records tells came left.
    on_err (IsLeft volume c.args.floor tree doubt (g.R.Rack.state c.read_open.new.rack)) c.from_residual.result
    (subst (IsLeft volume c.args.floor tree doubt) (sym c.read_open.ensures.stays) left)

pub returns-in_default-clause-left : goal.returns-in_default-clause-left
returns-in_default-clause-left g c = λ volume tree doubt records tells came left. subst (IsLeft volume c.args.floor tree doubt) (sym c.read_open.ensures.stays) left

-- a log that a node left is read
pub returns-in_default-clause-cause : goal.returns-in_default-clause-cause
returns-in_default-clause-cause g c = λ fault. inr (λ volume tree doubt records tells came.
    let found = found_of volume c.args.floor tree doubt records (g.R.Rack.state c.args.rack.now) came in
    rw c.in_default.is at (c.in_ok-log.ensures.reads records found.before found.truth found.more tells found.is))

pub returns-clause-recovers : goal.returns-clause-recovers
returns-clause-recovers g c = λ volume tree doubt records tells came.
    let found = found_of volume c.args.floor tree doubt records (g.R.Rack.state c.args.rack.now) came in
    let read = rw c.in-Some.is at (c.in_ok-log.ensures.reads records found.before found.truth found.more tells found.is) in
    c.answer.ensures.recovers volume tree doubt records (c.read_open.ensures.rack.keeps_telling tells) (subst (RestsOrActed volume c.args.floor tree doubt records) (sym c.read_open.ensures.stays) came) read

pub returns-clause-left : goal.returns-clause-left
returns-clause-left g c = λ volume tree doubt records tells came left.
    let found = found_of volume c.args.floor tree doubt records (g.R.Rack.state c.args.rack.now) came in
    let read = rw c.in-Some.is at (c.in_ok-log.ensures.reads records found.before found.truth found.more tells found.is) in
    c.answer.ensures.left volume tree doubt records (c.read_open.ensures.rack.keeps_telling tells) (subst (RestsOrActed volume c.args.floor tree doubt records) (sym c.read_open.ensures.stays) came) read

pub returns-clause-cause : goal.returns-clause-cause
returns-clause-cause g c = λ fault. ⊎_elim
    (λ rose. inl (rose_since (g.R.Rack.faults c.args.rack.now) (g.R.Rack.faults c.read_open.new.rack) (g.R.Rack.faults c.answer.new.rack) c.read_open.ensures.rack.later.all rose))
    (λ (none : (records : List Logged) → IsOpenLog records c.in-Some.log → HasNone (newest_in records)). inr (λ volume tree doubt records tells came.
    let found = found_of volume c.args.floor tree doubt records (g.R.Rack.state c.args.rack.now) came in
    let read = rw c.in-Some.is at (c.in_ok-log.ensures.reads records found.before found.truth found.more tells found.is) in
    all_parts (g.R.Rack.state c.args.rack.now) records found.before found.truth found.more found.is (none records read)))
    (c.answer.ensures.cause fault)

-- the other slots and the replicas are left alone
pub returns-in_err-log-clause-spares : goal.returns-in_err-log-clause-spares
returns-in_err-log-clause-spares g c = λ tells. spares_same (g.R.Rack.state c.args.rack.now) (g.R.Rack.state c.read_open.new.rack) c.read_open.ensures.stays

pub returns-in_default-clause-spares : goal.returns-in_default-clause-spares
returns-in_default-clause-spares g c = λ tells. spares_same (g.R.Rack.state c.args.rack.now) (g.R.Rack.state c.read_open.new.rack) c.read_open.ensures.stays

pub returns-clause-spares : goal.returns-clause-spares
returns-clause-spares g c = λ tells.
    let x = g.R.Rack.state c.args.rack.now in
    let mid = g.R.Rack.state c.read_open.new.rack in
    spares_then x mid (g.R.Rack.state c.answer.new.rack) (spares_same x mid c.read_open.ensures.stays) (c.answer.ensures.spares (c.read_open.ensures.rack.keeps_telling tells))
