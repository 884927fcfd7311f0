use Rattle.std.proofs.Common.{rules}
use Rattle.bx_outside.proofs.line_reader.LineReader.refill.Goals as goal

pub returns-clause-no_fault : goal.returns-clause-no_fault
returns-clause-no_fault g c = search rules

pub returns-clause-end : goal.returns-clause-end
returns-clause-end g c = search rules
