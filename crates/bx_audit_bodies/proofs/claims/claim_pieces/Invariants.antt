use Rattle.std.proofs.Common.{◌≡◌, ◌++◌, take}
use Rattle.bx_audit_bodies.specs.Claiming.{piece_claims}
use Rattle.bx_audit_bodies.proofs.claims.claim_pieces.Given as goal

abbrev pub invariant-loop-piece : goal.invariant-loop-piece
invariant-loop-piece l = l.claims.items ≡ l.fn.claims.items ++ piece_claims (take l.piece-index l.pieces)
