use Rattle.bx_audit_owners.specs.Holding.{holdings_of}
use Rattle.bx_audit_owners.proofs.KeysLeft.{AreLeft}
use Rattle.bx_audit_owners.proofs.words.check_held.Given as goal

abbrev pub invariant-loop-handle : goal.invariant-loop-handle
invariant-loop-handle l = record { left : AreLeft l.owns (holdings_of l.holders) l.handle-iterator }
