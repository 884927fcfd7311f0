use Rattle.std.proofs.Common.{ap, arith}
use Rattle.std.proofs.lemmas.List.Sums.{sum_by_more_le}
use Rattle.bx_page.specs.Contents.{entry_size}
use Rattle.std.proofs.Common.{take}
use Rattle.bx_page.proofs.Written.{length-entries}
use Rattle.bx_page.proofs.writing.put_entries.Goals as goal

pub put_entry-end-requires-clause-fits : goal.put_entry-end-requires-clause-fits
put_entry-end-requires-clause-fits c =
    let es = c.args.entries.now in
    let i = c.loop-entry.entry-index in
    let e = c.entry-item.result in
    omega (arith, ap entry_size c.entry-item.is, sum_by_more_le entry_size es i e c.loop-entry-test.true, length-entries (take i es))
