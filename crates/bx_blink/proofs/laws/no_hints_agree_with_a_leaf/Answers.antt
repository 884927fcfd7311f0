use Rattle.bx_blink.proofs.LonePage.{lone_page, lone_fit}
use Rattle.bx_blink.proofs.laws.no_hints_agree_with_a_leaf.Goals as goal

pub returns-clause-agree : goal.returns-clause-agree
returns-clause-agree c = lone_page

pub returns-clause-fit : goal.returns-clause-fit
returns-clause-fit c = lone_fit
