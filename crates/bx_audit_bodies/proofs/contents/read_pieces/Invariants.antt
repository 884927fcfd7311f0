use Rattle.std.proofs.Common.{take, Ok}
use Rattle.std.specs.Prelude.{All}
use Rattle.bx_truth.specs.PageTrees.{Chunks}
use Rattle.bx_audit_pages.specs.Shown.{Shows}
use Rattle.bx_audit_bodies.specs.Pieces.{HasPiece}
use Rattle.bx_audit_pages.specs.Reading.{ReadsChunks, StillShows}
use Rattle.bx_audit_bodies.proofs.contents.read_pieces.Given as goal

abbrev pub invariant-loop-piece : goal.invariant-loop-piece
invariant-loop-piece g l = record {
  blocks : ReadsChunks {A = Unit {0}} g.B.Blocks l.fn.blocks l.blocks (Ok tt);
  shows : StillShows g.B.Blocks l.areas l.fn.blocks l.blocks;
  read : (chunks : Chunks) → Shows (g.B.Blocks.tells l.fn.blocks) l.areas (g.B.Blocks.stands l.fn.blocks) chunks → All (HasPiece chunks) (take l.piece-index l.pieces);
}
