use Rattle.std.proofs.Common.{◌≡◌, take}
use Rattle.std.specs.Prelude.{All, map}
use Rattle.bx_truth.specs.PageTrees.{entries_of}
use Rattle.bx_audit_bodies.specs.Pieces.{IsPieceEntry, piece_in}
use Rattle.bx_audit_bodies.proofs.pieces.pieces_of.Given as goal

abbrev pub invariant-loop-leaf : goal.invariant-loop-leaf
invariant-loop-leaf l = record {
  pieces : l.pieces.items ≡ map piece_in (entries_of (take l.leaf-index l.leaves));
  each : All IsPieceEntry (entries_of (take l.leaf-index l.leaves));
}
