use Rattle.std.proofs.Common.{ℕ, List, ◌++◌, ◌∙◌, sym, ap}
use Rattle.std.proofs.lemmas.List.{append-nil}
use Rattle.bx_base.specs.Text.{text_of}
use Rattle.bx_listing.proofs.Pieces.{all_pieces, none_left, one_next_more}
use Rattle.bx_listing.proofs.listings.put_data.Goals as goal

pub loop-index-preserved : goal.loop-index-preserved
loop-index-preserved c =
    one_next_more (c.args.text.now.items ++ text_of (all_pieces 0 c.args.content.now)) c.loop-index.text.items c.put_piece.new.text.items c.args.content.now c.loop-index.from c.in-Some.index c.in-Some.piece.now c.in-Some.ensures
    c.in_ok-put_piece.ensures c.loop-index.invariant

pub returns : goal.returns
returns c =
    sym
    (c.loop-index.invariant
    ∙ ap (λ (lines : List (List ℕ)). c.loop-index.text.items ++ text_of lines) (none_left c.loop-index.from c.args.content.now c.in_default.ensures)
    ∙ append-nil c.loop-index.text.items)
