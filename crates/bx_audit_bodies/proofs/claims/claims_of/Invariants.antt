use Rattle.std.proofs.Common.{◌≡◌, take}
use Rattle.bx_audit_bodies.specs.Claiming.{page_claims}
use Rattle.bx_audit_bodies.proofs.claims.claims_of.Given as goal

abbrev pub invariant-loop-at : goal.invariant-loop-at
invariant-loop-at l = l.claims.items ≡ page_claims (take l.at l.tree)
