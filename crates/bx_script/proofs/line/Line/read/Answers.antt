use Rattle.bx_script.proofs.Lines.{is_found, is_only}
use Rattle.bx_script.proofs.line.Line.read.Goals as goal

pub returns-clause-found : goal.returns-clause-found
returns-clause-found c = is_found c.read_line.result c.args.text.now c.read_line.ensures

pub returns-clause-only : goal.returns-clause-only
returns-clause-only c = is_only c.read_line.result c.args.text.now c.read_line.ensures
