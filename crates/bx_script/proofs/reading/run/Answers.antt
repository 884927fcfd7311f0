use Rattle.std.proofs.Common.{rules}
use Rattle.bx_script.specs.Reading.{run_of}
use Rattle.bx_script.proofs.reading.run.Goals as goal

pub returns : goal.returns
unfolding run_of
returns c = search rules
