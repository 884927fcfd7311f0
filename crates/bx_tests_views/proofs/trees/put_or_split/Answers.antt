use Rattle.std.proofs.Common.{Err, ap, ◌∙◌}
use Rattle.bx_records.specs.Drafts.{block_in}
use Rattle.bx_views.specs.Truths.{no_hints}
use Rattle.bx_tests_views.proofs.Refusals.{may_split}
use Rattle.bx_tests_views.proofs.trees.put_or_split.Goals as goal

pub split-requires : goal.split-requires
split-requires c =
    may_split (λ at mode. block_in c.args.desk.now.held at) no_hints c.args.draft.now c.insert.new.draft _ c.args.key.now c.args.value.now
    c.in-Err-NoRoom.leaf c.insert.result (λ at block e. e) c.requires.none c.requires.both c.insert.ensures.unchanged c.insert.ensures.ends
    (c.in-Err-NoRoom.is ∙ ap Err c.in-Err-NoRoom.field-0-is)
