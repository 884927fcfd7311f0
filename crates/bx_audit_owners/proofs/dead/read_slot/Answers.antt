use Rattle.bx_audit_owners.proofs.Ends.{torn_too}
use Rattle.bx_audit_owners.proofs.dead.read_slot.Goals as goal

pub returns-clause-torn : goal.returns-clause-torn
returns-clause-torn g c = λ chunks files shows found. torn_too _ _ c.read_one.result (λ at wrong wanted is. (c.if-not-slot.false, is)) (c.read_one.ensures.torn chunks files shows found)
