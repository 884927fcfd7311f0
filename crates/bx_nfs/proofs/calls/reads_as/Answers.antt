use Rattle.bx_nfs.proofs.Asking.{asked}
use Rattle.bx_nfs.proofs.Reading.{passed_reads}
use Rattle.bx_nfs.proofs.calls.reads_as.Goals as goal

pub returns-in_default-clause-none : goal.returns-in_default-clause-none
returns-in_default-clause-none c = λ xid call reads. (rw c.in_default.is at c.in_ok-opened.ensures.none) xid reads.text reads.message

pub returns-clause-found : goal.returns-clause-found
returns-clause-found c =
    passed_reads c.args.datagram.now c.in-Some.opened c.in_ok-call.call (rw c.in-Some.is at c.in_ok-opened.ensures.found) c.if-opened-ne0.false c.in_ok-call.ensures

pub returns-clause-asked : goal.returns-clause-asked
returns-clause-asked c =
    asked c.args.datagram.now c.in-Some.opened.xid c.in_ok-call.call
    (passed_reads c.args.datagram.now c.in-Some.opened c.in_ok-call.call (rw c.in-Some.is at c.in_ok-opened.ensures.found) c.if-opened-ne0.false c.in_ok-call.ensures)
