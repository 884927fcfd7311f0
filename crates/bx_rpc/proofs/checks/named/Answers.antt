use Rattle.std.proofs.Common.{refl, inl, inr, arith}
use Rattle.bx_rpc.proofs.checks.named.Goals as goal

pub returns-in_default-clause-err : goal.returns-in_default-clause-err
returns-in_default-clause-err c =
    (omega arith, (refl, λ caller names. elim names [ inl x ↦ absurd (omega (arith, x.0)) | inr x ↦ (rw c.in_default.is at c.in_ok-caller.ensures.none) caller x.1 ]))
