use Rattle.std.proofs.Common.{sym, ◌∙◌, ap}
use Rattle.std.specs.Ordering.{is_lt}
use Rattle.bx_page.specs.Contents.{last, up_to}
use Rattle.bx_page.specs.Keys.{is_below}
use Rattle.bx_page_bytes.proofs.Searches.{stops, goes}
use Rattle.bx_page_bytes.proofs.page.PageBytes.last_up_to.Goals as goal

pub returns-then-is_lt : goal.returns-then-is_lt
returns-then-is_lt c =
    let lt = c.if-is_lt.true in
    stops c.loop-entry.entries c.in-Some.entry c.args.key.now c.loop-entry.found (last (up_to c.args.self.now.entries c.args.key.now)) c.loop-entry.invariant.rises c.in-Some.ensures.next (ap (is_below c.args.key.now) (sym c.key.ensures) ∙ sym (ap is_lt c.cmp.ensures) ∙ sym c.is_lt.ensures ∙ lt) c.loop-entry.invariant.found

pub loop-entry-preserved : goal.loop-entry-preserved
loop-entry-preserved c =
    let step = goes c.loop-entry.entries c.in-Some.entry c.args.key.now c.loop-entry.found (last (up_to c.args.self.now.entries c.args.key.now)) c.loop-entry.invariant.rises c.in-Some.ensures.next (ap (is_below c.args.key.now) (sym c.key.ensures) ∙ sym (ap is_lt c.cmp.ensures) ∙ sym c.is_lt.ensures ∙ c.if-is_lt.false) c.loop-entry.invariant.found in
    record { rises = rw c.next.ensures.rest step.rises; found = rw c.next.ensures.rest step.found }
