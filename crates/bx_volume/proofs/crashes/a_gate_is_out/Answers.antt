use Rattle.bx_volume.proofs.GateOut.{gate_out, closing_out}
use Rattle.bx_volume.proofs.crashes.a_gate_is_out.Goals as goal

pub returns-clause-opening : goal.returns-clause-opening
returns-clause-opening c = gate_out

pub returns-clause-closing : goal.returns-clause-closing
returns-clause-closing c = closing_out
