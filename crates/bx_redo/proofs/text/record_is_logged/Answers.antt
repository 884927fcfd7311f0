use Rattle.std.proofs.Common.{◌<◌, ◌^◌, rules}
use Rattle.bx_redo.proofs.Heads.{is_logged}
use Rattle.bx_redo.proofs.text.record_is_logged.Goals as goal

pub returns : goal.returns
returns c = λ areas each.
    let call : c.args.point.call < 2 ^ 64 = search rules in
    let moment : c.args.point.moment < 2 ^ 64 = search rules in
    let spare : c.args.point.spare < 2 ^ 64 = search rules in
    let made : c.args.point.made < 2 ^ 64 = search rules in
    is_logged areas c.args.point c.args.draft.now call moment spare made c.blocks-blocks.ensures.draft c.requires each
