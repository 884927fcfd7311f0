use Rattle.std.proofs.Common.{⊎_elim, ◌∙◌, inl, inr, refl, sym, subst}
use Rattle.bx_audit_links.specs.Right.{IsRight}
use Rattle.bx_audit_links.proofs.Rests.{contains_same, front_or_rest, front_there, later_above, later_rise, none_there, rest_there}
use Rattle.bx_tree_laws.proofs.Rises.{Rise}
use Rattle.bx_audit_links.proofs.right.wrong_in.Goals as goal

pub loop-file-init : goal.loop-file-init
loop-file-init c = record {
  done = λ file there. inr (contains_same _ _ file (sym (c.into_iter-file-iterator.ensures.into_iter_gives ∙ c.iter-file-items.ensures.all)) there);
  rest = λ file there. contains_same _ _ file (c.into_iter-file-iterator.ensures.into_iter_gives ∙ c.iter-file-items.ensures.all) there;
  rise = subst Rise (sym (c.into_iter-file-iterator.ensures.into_iter_gives ∙ c.iter-file-items.ensures.all)) c.requires.rise;
}

pub is_right-requires-clause-apart : goal.is_right-requires-clause-apart
is_right-requires-clause-apart c = λ parent next names.
    c.requires.apart c.in-Some.file.now parent next names (c.loop-file.invariant.rest c.in-Some.file.now (front_there _ _ c.in-Some.file.now c.in-Some.ensures.steps))

pub loop-file-preserved : goal.loop-file-preserved
loop-file-preserved c = record {
  done = λ file there. ⊎_elim
      (λ right. inl right)
      (λ left. ⊎_elim
      (λ same. inl (subst (IsRight c.args.files.now c.args.root) same (c.is_right.ensures.yes cc)))
      (λ later. inr later)
      (front_or_rest _ _ c.in-Some.file.now file c.in-Some.ensures.steps left))
      (c.loop-file.invariant.done file there);
  rest = λ file there. c.loop-file.invariant.rest file (rest_there _ _ c.in-Some.file.now file c.in-Some.ensures.steps there);
  rise = later_rise _ _ c.in-Some.file.now c.in-Some.ensures.steps c.loop-file.invariant.rise;
}

pub returns-clause-none : goal.returns-clause-none
returns-clause-none c = λ file there. ⊎_elim (λ right. right) (λ left. absurd (none_there _ file c.in-None.ensures.steps.0 left)) (c.loop-file.invariant.done file there)

pub returns-then-not-is_right-clause-some : goal.returns-then-not-is_right-clause-some
returns-then-not-is_right-clause-some c = record {
  file = c.in-Some.file.now;
  there = c.loop-file.invariant.rest c.in-Some.file.now (front_there _ _ c.in-Some.file.now c.in-Some.ensures.steps);
  handle_is = refl;
  wrong = c.is_right.ensures.no cc;
  first = λ earlier there below. ⊎_elim
      (λ right. right)
      (λ left. absurd (later_above _ _ c.in-Some.file.now earlier c.in-Some.ensures.steps c.loop-file.invariant.rise left below))
      (c.loop-file.invariant.done earlier there);
}
