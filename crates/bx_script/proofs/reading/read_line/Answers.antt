use Rattle.std.proofs.Common.{rules}
use Rattle.bx_script.specs.Reading.{line_of}
use Rattle.bx_script.proofs.reading.read_line.Goals as goal

pub returns-in_default-word : goal.returns-in_default-word
unfolding line_of
returns-in_default-word c = search rules
