use Rattle.bx_generated.proofs.Grammar.{begins_schedule}
use Rattle.bx_generated.proofs.laws.in_grammar.Goals as goal

pub returns : goal.returns
returns c = begins_schedule
