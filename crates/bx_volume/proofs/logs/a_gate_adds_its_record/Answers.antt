use Rattle.bx_volume.proofs.Steps.{gate_stays_closed, gate_opens}
use Rattle.bx_volume.proofs.logs.a_gate_adds_its_record.Goals as goal

pub returns-clause-closed : goal.returns-clause-closed
returns-clause-closed c = λ held now devices areas rows logs truth slot was less taken place only closed. gate_stays_closed held now devices areas rows logs truth slot less taken place only closed was

pub returns-clause-opened : goal.returns-clause-opened
returns-clause-opened c = λ held now devices areas rows logs truth slot more was less taken place only is_open body next alone. gate_opens held now devices areas rows logs truth slot more less taken place only is_open body next alone was
