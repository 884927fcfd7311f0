use Rattle.std.proofs.Common.{arith}
use Rattle.std.proofs.lemmas.Bool.Decides.{nat_tests}
use Rattle.bx_logs.specs.bx_homes.proofs.Sectors.{of_none}
use Rattle.bx_overlay.proofs.There.{are_there}
use Rattle.bx_overlay.proofs.volume_disks.find_members.Goals as goal

pub returns-clause-there : goal.returns-clause-there
returns-clause-there g c =
    are_there (g.R.Rack.state c.args.rack.now).sizes c.args.first.now c.args.rows.now c.members_of.result c.requires (grind (arith, nat_tests, c.if-rows-first.false))
    (of_none c.first_absent.result c.in_default.is c.first_absent.ensures.none)
    (of_none c.in_ok-disk.field-0 c.in_default-2.is c.in_ok-disk.ensures.room)
    c.members_of.ensures
