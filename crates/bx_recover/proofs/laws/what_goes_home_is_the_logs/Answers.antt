use Rattle.bx_recover.proofs.HomesOf.{its_homes}
use Rattle.bx_recover.proofs.laws.what_goes_home_is_the_logs.Goals as goal

pub returns : goal.returns
returns c = λ devices areas slot logs records blocks newest logged same. its_homes devices areas slot logs records blocks newest logged same
