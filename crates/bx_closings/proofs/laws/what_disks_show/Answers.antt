use Rattle.bx_closings.proofs.Closes.{closes}
use Rattle.bx_closings.proofs.laws.what_disks_show.Goals as goal

pub returns : goal.returns
returns c = λ x y first parts led of crashed. closes c.args.world.now x y first parts led crashed of.volume of.areas led.doubted led.logged
