use Rattle.std.proofs.Common.{◌+◌, length, sym, ◌∙◌}
use Rattle.bx_records.specs.Drafts.{with_block}
use Rattle.bx_chunks.proofs.Drafts.{decides, length_both}
use Rattle.bx_chunks.proofs.putting.has_room.Goals as goal

pub returns : goal.returns
returns c = λ a b.
    decides (length c.blocks-2.result.now + c.count_missing.result + c.count_missing-2.result) (length (with_block (with_block c.args.draft.now c.args.one a) c.args.other b))
    (length_both c.args.draft.now c.args.one c.args.other a b c.requires
    ∙ λ i. length (sym c.blocks-2.ensures.is i) + sym c.count_missing.ensures i + sym c.count_missing-2.ensures i)
