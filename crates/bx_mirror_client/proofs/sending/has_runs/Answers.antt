use Rattle.std.proofs.Common.{sym}
use Rattle.bx_mirror_client.proofs.Finding.{found_on, none_more}
use Rattle.bx_mirror_client.proofs.sending.has_runs.Goals as goal

pub returns-then-run-device : goal.returns-then-run-device
returns-then-run-device c = sym (found_on c.args.device c.loop-i.i c.args.runs.now.1 c.in-Some.run'.now (sym c.in-Some.ensures) c.if-run-device.true)

pub loop-i-preserved : goal.loop-i-preserved
loop-i-preserved c = none_more c.args.device c.loop-i.i c.args.runs.now.1 c.in-Some.run'.now (sym c.in-Some.ensures) c.if-run-device.false c.loop-i.invariant
