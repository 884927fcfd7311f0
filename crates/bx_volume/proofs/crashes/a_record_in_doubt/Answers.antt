use Rattle.bx_volume.proofs.Doubt.{gate_in_doubt, closing_in_doubt}
use Rattle.bx_volume.proofs.crashes.a_record_in_doubt.Goals as goal

pub returns-clause-opening : goal.returns-clause-opening
returns-clause-opening c = gate_in_doubt

pub returns-clause-closing : goal.returns-clause-closing
returns-clause-closing c = closing_in_doubt
