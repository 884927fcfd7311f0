use Rattle.std.proofs.Common.{◌≡◌, length, take, Ok}
use Rattle.std.specs.Prelude.{All}
use Rattle.bx_truth.specs.PageTrees.{Chunks}
use Rattle.bx_truth.specs.Stored.{AreBytesOf}
use Rattle.bx_audit_pages.specs.Shown.{Shows}
use Rattle.bx_audit_bodies.specs.Pieces.{AreApart, HasPiece, piece_among}
use Rattle.bx_audit_pages.specs.Reading.{ReadsChunks, StillShows}
use Rattle.bx_audit_bodies.proofs.contents.bytes_of.Given as goal

abbrev pub invariant-loop-piece : goal.invariant-loop-piece
invariant-loop-piece g l = record {
  blocks : ReadsChunks {A = Unit {0}} g.B.Blocks l.fn.blocks l.blocks (Ok tt);
  shows : StillShows g.B.Blocks l.areas l.fn.blocks l.blocks;
  len : length l.content ≡ l.size;
  read : (chunks : Chunks) → Shows (g.B.Blocks.tells l.fn.blocks) l.areas (g.B.Blocks.stands l.fn.blocks) chunks → All (HasPiece chunks) (take l.piece-index l.pieces);
  bytes : (chunks : Chunks) → Shows (g.B.Blocks.tells l.fn.blocks) l.areas (g.B.Blocks.stands l.fn.blocks) chunks → AreApart l.pieces
      → AreBytesOf (piece_among chunks (take l.piece-index l.pieces)) l.size l.tail l.content;
}
