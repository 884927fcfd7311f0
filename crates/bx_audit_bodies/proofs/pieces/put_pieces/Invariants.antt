use Rattle.std.proofs.Common.{◌≡◌, ◌++◌, take}
use Rattle.std.specs.Prelude.{All, map}
use Rattle.bx_audit_bodies.specs.Pieces.{IsPieceEntry, piece_in}
use Rattle.bx_audit_bodies.proofs.pieces.put_pieces.Given as goal

abbrev pub invariant-loop-at : goal.invariant-loop-at
invariant-loop-at l = record {
  pieces : l.pieces.items ≡ l.fn.pieces.items ++ map piece_in (take l.at l.page.entries);
  each : All IsPieceEntry (take l.at l.page.entries);
}
