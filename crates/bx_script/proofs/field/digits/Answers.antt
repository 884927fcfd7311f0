use Rattle.std.proofs.Common.{◌∙◌}
use Rattle.bx_script.proofs.Numbers.{parsed, IsUtf8-digits}
use Rattle.bx_script.proofs.field.digits.Goals as goal

pub returns : goal.returns
returns c = c.ok.ensures.value ∙ parsed c.args.field.now c.parse.result (rw c.in-Ok.ensures.cases.0 at c.parse.ensures.value.0) c.requires

pub returns-in_default : goal.returns-in_default
returns-in_default c = absurd (c.in_default.ensures.cases.0 (IsUtf8-digits c.args.field.now c.requires))
