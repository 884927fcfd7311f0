use Rattle.std.proofs.Common.{rules}
use Rattle.bx_page.proofs.checks.are_children.Goals as goal

pub returns : goal.returns
returns c = search rules
