use Rattle.std.proofs.Common.{sym, subst}
use Rattle.bx_plain_repair.specs.HomesOf.{AreHomesBelow}
use Rattle.bx_plain_repair.proofs.HomesOf.{none_yet}
use Rattle.bx_plain_repair.proofs.homes.home_runs.Goals as goal

pub loop-at-init : goal.loop-at-init
loop-at-init c = subst (AreHomesBelow c.args.newest.now 0) (sym c.new-runs.ensures) (none_yet c.args.newest.now)
