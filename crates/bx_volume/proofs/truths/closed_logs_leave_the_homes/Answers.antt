use Rattle.bx_volume.proofs.Matters.{homes_truth}
use Rattle.bx_volume.proofs.truths.closed_logs_leave_the_homes.Goals as goal

pub returns : goal.returns
returns c = homes_truth
