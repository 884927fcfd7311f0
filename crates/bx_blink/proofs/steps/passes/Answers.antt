use Rattle.bx_blink.proofs.steps.passes.Goals as goal

pub returns-in-Some : goal.returns-in-Some
returns-in-Some c = rw (← c.in-Some.ensures, c.is_lt.ensures, c.cmp.ensures)
