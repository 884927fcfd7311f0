use Rattle.std.proofs.Common.{refl, arith}
use Rattle.bx_cell.proofs.cell.Cell.put.Goals as goal

pub returns-in_err-replace-clause-any_moment : goal.returns-in_err-replace-clause-any_moment
returns-in_err-replace-clause-any_moment g c = λ tells.
    rw (← c.self.view_is) (c.replace.ensures.any_moment tells (record { half = c.self.inside.half; number = c.self.inside.number; value = c.self.inside.value }) (omega (arith, c.self.invariant.0)) refl)

pub returns-clause-holds : goal.returns-clause-holds
returns-clause-holds g c = λ tells.
    rw (← c.self.view_is, c.in_ok-copy.ensures) (c.in_ok-replace.ensures.holds tells (record { half = c.self.inside.half; number = c.self.inside.number; value = c.self.inside.value }) (omega (arith, c.self.invariant.0)) refl)

pub returns-clause-any_moment : goal.returns-clause-any_moment
returns-clause-any_moment g c = λ tells.
    rw (← c.self.view_is) (c.replace.ensures.any_moment tells (record { half = c.self.inside.half; number = c.self.inside.number; value = c.self.inside.value }) (omega (arith, c.self.invariant.0)) refl)
