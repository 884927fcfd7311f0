use Rattle.std.proofs.Common.{◌≡◌, ℕ, ◌*◌, [], length}
use Rattle.bx_inodes.specs.bx_blink.specs.Hints.{Under}
use Rattle.bx_chunks.specs.bx_truth.specs.Chunks.{chunks_of}
use Rattle.bx_chunks.specs.bx_truth.specs.Stored.{HasContents, Owner, Stored, piece_of}
use Rattle.bx_views.specs.Truths.{Truth}
use Rattle.bx_files.specs.Reads.{AreOfPieces}
use Rattle.bx_files.proofs.reading.fill.Given as goal

abbrev pub invariant-loop-number : goal.invariant-loop-number
invariant-loop-number g l = record {
  long : length l.into ≡ 12288;
  done : (truth : Truth) (owner : ℕ → Owner) (handle : ℕ) (stored : Stored) → Under l.areas (g.V.View.held l.view) (g.V.View.hints l.view) truth [] l.root stored.tree
      → HasContents (chunks_of l.areas truth) owner handle stored → AreOfPieces (piece_of (chunks_of l.areas truth) stored.tree) l.first (4096 * l.number) l.into;
}
