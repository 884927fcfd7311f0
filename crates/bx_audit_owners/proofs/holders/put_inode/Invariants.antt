use Rattle.bx_audit_owners.specs.Holding.{AddsHolder, holdings_of}
use Rattle.bx_audit_owners.proofs.holders.put_inode.Given as goal

abbrev pub invariant-loop-claim : goal.invariant-loop-claim
invariant-loop-claim l = record { adds : AddsHolder (holdings_of l.fn.holders) l.inode l.fn.holder l.claims l.claim-index (holdings_of l.holders) }
