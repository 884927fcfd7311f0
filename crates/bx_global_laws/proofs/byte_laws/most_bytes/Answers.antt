use Rattle.bx_global.proofs.Lengths.{length-state, length-allowed, length-held}
use Rattle.bx_global_laws.proofs.byte_laws.most_bytes.Goals as goal

pub returns-clause-rows : goal.returns-clause-rows
returns-clause-rows c = length-state

pub returns-clause-state : goal.returns-clause-state
returns-clause-state c = length-allowed

pub returns-clause-held : goal.returns-clause-held
returns-clause-held c = length-held
