use Rattle.std.proofs.Common.{◌≡◌, ℕ, ◌+◌, ◌∙◌, Option, refl, ap}
use Rattle.std.specs.Prelude.{[]}
use Rattle.std.specs.Option.{option_copied}
use Rattle.bx_inodes.specs.bx_blink.specs.Hints.{Under}
use Rattle.bx_views.specs.Truths.{Truth}
use Rattle.bx_layout.specs.declared.block.Block.{Block}
use Rattle.bx_chunks.specs.bx_truth.specs.Chunks.{chunks_of}
use Rattle.bx_chunks.specs.bx_truth.specs.Stored.{HasContents, Owner, Stored, byte_in, piece_of}
use Rattle.bx_files.specs.Paths.{OnPiece, OnPieces}
use Rattle.bx_files.proofs.Needs.{needs_along, piece_on}
use Rattle.bx_files.proofs.Windows.{all_below, piece_below, piece_more}
use Rattle.bx_files.proofs.reading.fill.Goals as goal

pub returns-in-Err-clause-need : goal.returns-in-Err-clause-need
returns-in-Err-clause-need g c =
    let held = g.V.View.held c.args.view.now in
    let hints = g.V.View.hints c.args.view.now in
    needs_along (Option Block) (Unit {0}) c.args.areas held (OnPiece held hints c.args.root (c.args.first + c.loop-number.number)) (OnPieces held hints c.args.root c.args.first c.args.len)
    (piece_on held hints c.args.root c.args.first c.args.len c.loop-number.number (c.args.first + c.loop-number.number) refl (piece_below c.args.len c.div_ceil-number-end.result c.loop-number.number c.div_ceil-number-end.ensures c.loop-number-test.true))
    c.in-Err.stop c.in-Err.ensures.need

pub loop-number-preserved : goal.loop-number-preserved
loop-number-preserved g c = record {
  long = c.put_piece.auto.into ∙ c.loop-number.invariant.long;
  done = λ truth owner handle stored u has.
      piece_more (piece_of (chunks_of c.args.areas truth) stored.tree) c.args.first c.loop-number.number c.loop-number.into c.put_piece.new.into (c.loop-number.invariant.done truth owner handle stored u has)
      c.put_piece.ensures.before
      (λ place less. c.put_piece.ensures.here place less ∙ c.bytes_of.ensures place ∙ ap (λ (o : Option Block). byte_in o place) (piece_is truth owner handle stored u has));
}
  where
    piece_is : (truth : Truth) (owner : ℕ → Owner) (handle : ℕ) (stored : Stored) → Under c.args.areas (g.V.View.held c.args.view.now) (g.V.View.hints c.args.view.now) truth [] c.args.root stored.tree
        → HasContents (chunks_of c.args.areas truth) owner handle stored → option_copied c.in-Ok.piece ≡ piece_of (chunks_of c.args.areas truth) stored.tree (c.args.first + c.loop-number.number)
    piece_is truth owner handle stored u has = c.in-Ok.ensures.tree truth owner handle stored u has

pub returns-clause-tree : goal.returns-clause-tree
returns-clause-tree g c = λ truth owner handle stored u has place less.
    c.loop-number.invariant.done truth owner handle stored u has place (all_below c.args.len c.div_ceil-number-end.result c.loop-number.number place c.div_ceil-number-end.ensures c.loop-number-test.false less)
