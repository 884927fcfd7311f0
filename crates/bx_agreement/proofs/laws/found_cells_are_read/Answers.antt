use Rattle.std.specs.Prelude.{IsTrue}
use Rattle.bx_agreement.proofs.Founds.{found_ahead, found_level}
use Rattle.bx_agreement.proofs.laws.found_cells_are_read.Goals as goal

pub returns-clause-ahead : goal.returns-clause-ahead
returns-clause-ahead c = λ h cells seen raw k l n t one other held their touched sound within readable catch is high up. found_ahead h cells sound seen within k l one other readable raw (λ m. IsTrue (touched m)) catch n held t their is high up

pub returns-clause-level : goal.returns-clause-level
returns-clause-level c = λ h cells seen raw k l n one other held touched sound within readable catch is high level. found_level h cells sound seen within k l one other readable raw (λ m. IsTrue (touched m)) catch n held is high level
