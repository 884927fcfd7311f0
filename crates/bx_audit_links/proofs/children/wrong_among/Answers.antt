use Rattle.std.proofs.Common.{◌∙◌, sym}
use Rattle.bx_audit_links.proofs.Rests.{all_there, contains_same, none_there, rest_there}
use Rattle.bx_audit_links.proofs.children.wrong_among.Goals as goal

pub loop-entry-init : goal.loop-entry-init
loop-entry-init c = record {
  all = λ right entry there. right entry (contains_same _ _ entry (sym (c.into_iter-entry-iterator.ensures.into_iter_gives ∙ c.iter-entry-items.ensures)) there);
  rest = λ entry there. contains_same _ _ entry (c.into_iter-entry-iterator.ensures.into_iter_gives ∙ c.iter-entry-items.ensures) there;
}

pub loop-entry-preserved : goal.loop-entry-preserved
loop-entry-preserved c = record {
  all = λ right. c.loop-entry.invariant.all (all_there _ _ _ c.in-Some.entry.now c.in-Some.ensures.steps (c.if-not-is_child_of.ensures.yes cc) right);
  rest = λ entry there. c.loop-entry.invariant.rest entry (rest_there _ _ c.in-Some.entry.now entry c.in-Some.ensures.steps there);
}

pub returns-clause-none : goal.returns-clause-none
returns-clause-none c = c.loop-entry.invariant.all (λ entry there. absurd (none_there _ entry c.in-None.ensures.steps.0 there))
