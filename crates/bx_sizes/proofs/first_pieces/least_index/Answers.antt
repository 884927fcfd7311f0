use Rattle.std.proofs.Common.{◌≡◌, ℕ, List, arith, subst, sym}
use Rattle.bx_sizes.specs.FirstPieces.{IsLeastIndex}
use Rattle.bx_sizes.proofs.Digits.{same_byte}
use Rattle.bx_sizes.proofs.first_pieces.least_index.Goals as goal

pub returns-clause-least : goal.returns-clause-least
returns-clause-least c =
    let three : c.in-Some.first.now ≡ 3 = omega (arith, c.if-first-lt-CONTENT.false, c.if-first-gt-CONTENT.false) in
    subst (λ (key : List ℕ). IsLeastIndex key c.least_number.result) (sym c.in-Some.ensures.cases.0)
    (same_byte c.in-Some.first.now c.least_number.result c.in-Some.number.now three c.least_number.ensures.least)
