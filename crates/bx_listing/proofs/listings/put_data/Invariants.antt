use Rattle.std.proofs.Common.{◌≡◌, ◌-◌, ◌*◌, ◌++◌, drop, length}
use Rattle.bx_base.specs.Text.{text_of}
use Rattle.bx_listing.proofs.Pieces.{all_pieces}
use Rattle.bx_listing.proofs.listings.put_data.Given as goal

abbrev pub invariant-loop-index : goal.invariant-loop-index
invariant-loop-index l =
    l.initial.text.items ++ text_of (all_pieces 0 l.content) ≡ l.text.items ++ text_of (all_pieces (4096 * l.from) (drop (4096 * l.from) l.content))

abbrev pub decreases-loop-index : goal.decreases-loop-index
decreases-loop-index l = length l.content - 4096 * l.from
