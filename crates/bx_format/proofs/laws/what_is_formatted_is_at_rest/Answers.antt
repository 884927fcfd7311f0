use Rattle.bx_format.proofs.Rests.{at_rest}
use Rattle.bx_format.proofs.laws.what_is_formatted_is_at_rest.Goals as goal

pub returns : goal.returns
returns c = λ disks first state is zero devices made. at_rest disks first is made state zero devices
