use Rattle.std.proofs.Common.{rules}
use Rattle.bx_script.specs.Reading.{is_numeral}
use Rattle.bx_script.proofs.field.is_numeral.Goals as goal

pub returns-then-not-leading_zero : goal.returns-then-not-leading_zero
unfolding is_numeral
returns-then-not-leading_zero c = search rules
