use Rattle.std.proofs.Common.{◌<◌, length, get_or, ap, subst, ◌∙◌, List}
use Rattle.bx_records.specs.Drafts.{Changed}
use Rattle.bx_chunks.proofs.Drafts.{copy_more}
use Rattle.bx_chunks.proofs.putting.copy_of.Goals as goal

pub loop-at-preserved : goal.loop-at-preserved
loop-at-preserved c =
    copy_more c.args.draft.now c.loop-at.copy c.put_in.new.draft c.loop-at.at-index c.loop-at-item.result c.in_ok-block.block c.loop-at.invariant
    (subst (λ (xs : List Changed). c.loop-at.at-index < length xs) c.blocks-at-items.ensures.is c.loop-at-test.true)
    (c.loop-at-item.is ∙ ap (λ (xs : List Changed). get_or xs c.loop-at.at-index c.loop-at-item.result) c.blocks-at-items.ensures.is)
    c.in_ok-block.ensures c.in_ok-put_in.ensures
