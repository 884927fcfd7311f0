use Rattle.std.proofs.Common.{refl}
use Rattle.bx_node_steps.specs.Logging.{Rests}
use Rattle.bx_node_steps.proofs.machine.Machine.log_on.Goals as goal

pub returns-in-Idle : goal.returns-in-Idle
returns-in-Idle c = Rests c.in-Idle.is refl
