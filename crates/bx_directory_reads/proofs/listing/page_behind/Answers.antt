use Rattle.std.proofs.Common.{◌∙◌, ap}
use Rattle.bx_call_parts.proofs.Filled.{both_listed}
use Rattle.bx_call_parts.specs.Pages.{dots}
use Rattle.bx_model.specs.declared.reply.Reply.TheVariants as Reply
use Rattle.bx_directory_reads.proofs.listing.page_behind.Goals as goal

pub returns-in-Ok-clause-list : goal.returns-in-Ok-clause-list
returns-in-Ok-clause-list g c = λ truth names has.
    ap (Reply.List c.put_entries.new.page.entries) c.end_word.ensures
    ∙ both_listed c.new-page.result c.put_dots.new.self c.put_entries.new.page c.in-Ok.all_fit (dots c.args.handle c.args.inode.now.parent) names c.args.cookie c.args.count c.new-page.ensures
    (rw c.if-not-both_fit.false at c.in_ok-both_fit.ensures) (c.in-Ok.ensures.list truth names has)
