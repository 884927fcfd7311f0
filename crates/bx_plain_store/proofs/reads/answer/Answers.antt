use Rattle.std.proofs.Common.{sym}
use Rattle.bx_plain_store.proofs.Reading.{reads_settled}
use Rattle.bx_plain_store.proofs.reads.answer.Goals as goal

pub returns-clause-settled : goal.returns-clause-settled
returns-clause-settled g c = λ sector content tells is from below.
    reads_settled (g.R.Rack.state c.args.rack.now) c.args.known.now c.in-Some.row.now c.args.ask.device c.source_disk-disk.result c.args.ask.place c.args.ask.count sector content _
    (sym c.in-Some.ensures) c.source_disk-disk.ensures (c.in_ok-bytes.ensures.bytes tells) c.in_ok-bytes.ensures.long is from below
