use Rattle.std.proofs.Common.{rules}
use Rattle.bx_stop_rack.proofs.stop_rack.StopRack.new.Goals as goal

pub returns : goal.returns
returns g c = search rules
