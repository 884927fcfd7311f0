use Rattle.std.proofs.Common.{ap, sym, ◌∙◌}
use Rattle.std.specs.Ordering.{is_lt}
use Rattle.bx_page.specs.Keys.{is_below}
use Rattle.bx_page_bytes.proofs.Searches.{all_from}
use Rattle.bx_page_bytes.proofs.page.PageBytes.from.Goals as goal

pub returns-else-is_lt : goal.returns-else-is_lt
returns-else-is_lt c =
    c.loop-entry.invariant.rest
    ∙ sym (all_from c.loop-entry.entries c.in-Some.entry c.args.key.now c.loop-entry.invariant.rises c.in-Some.ensures.next
    (ap (λ k. is_below k c.args.key.now) (sym c.key.ensures) ∙ sym (ap is_lt c.cmp.ensures) ∙ sym c.is_lt.ensures ∙ c.if-is_lt.false))
    ∙ c.loop-entry.invariant.same
