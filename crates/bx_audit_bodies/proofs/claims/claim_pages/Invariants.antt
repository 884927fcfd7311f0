use Rattle.std.proofs.Common.{◌≡◌, ◌++◌, take}
use Rattle.std.specs.Prelude.{map}
use Rattle.bx_audit_bodies.specs.Claiming.{page_claim}
use Rattle.bx_audit_bodies.proofs.claims.claim_pages.Given as goal

abbrev pub invariant-loop-page : goal.invariant-loop-page
invariant-loop-page l = l.claims.items ≡ l.fn.claims.items ++ map page_claim (take l.page-index l.pages)
