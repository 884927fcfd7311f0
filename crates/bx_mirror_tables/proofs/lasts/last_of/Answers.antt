use Rattle.std.proofs.Common.{sym}
use Rattle.bx_mirror_tables.proofs.Noting.{found_reads, none_reads}
use Rattle.bx_mirror_tables.proofs.lasts.last_of.Goals as goal

pub returns-in-Some : goal.returns-in-Some
returns-in-Some c = found_reads c.args.lasts.now c.args.session c.in-Some.at _ (sym c.in-Some.ensures.value)

pub returns-in-None : goal.returns-in-None
returns-in-None c = none_reads c.args.lasts.now c.args.session (sym c.in-None.ensures.value)
