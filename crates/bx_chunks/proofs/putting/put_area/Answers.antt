use Rattle.std.proofs.Common.{◌≡◌, ℕ, None, Err, ap, subst, ◌∙◌}
use Rattle.bx_records.specs.Drafts.{block_in}
use Rattle.bx_truth.specs.Chunks.{own_block}
use Rattle.bx_chunks.specs.Putting.{own_of}
use Rattle.bx_chunks.proofs.Drafts.{crowds}
use Rattle.bx_chunks.proofs.putting.put_area.Goals as goal

pub returns-in-Err-Crowded-clause-puts : goal.returns-in-Err-Crowded-clause-puts
returns-in-Err-Crowded-clause-puts c =
    let full = c.put.ensures.crowded.0 (c.in-Err-Crowded.is ∙ ap Err c.in-Err-Crowded.field-0-is) in
    crowds c.args.draft.now (own_block c.args.area) (own_of c.args.area c.args.slots.now) (full.0, subst (λ (n : ℕ). block_in c.args.draft.now n ≡ None) c.own_block.ensures full.1)
