use Rattle.std.proofs.Common.{[], ◌∷◌, ◌++◌, refl, sym, ap, ◌∙◌, append_assoc, append-nil, List}
use Rattle.bx_tree_files.specs.declared.file.Name.{Name}
use Rattle.bx_tree_laws.proofs.Counts.{none_contained}
use Rattle.bx_audit_links.proofs.ReachedOnes.{more_named, named_more, named_same, reaches_both, reaches_none, reaches_same}
use Rattle.bx_audit_links.proofs.reached.reach_names.Goals as goal

pub loop-entry-init : goal.loop-entry-init
loop-entry-init c = record {
  done = [];
  parts = sym (c.into_iter-entry-iterator.ensures.into_iter_gives ∙ c.iter-entry-items.ensures);
  reaches = reaches_none _ _ _ (λ handle named. none_contained named.0 named.1);
  total = refl;
}

pub loop-entry-preserved : goal.loop-entry-preserved
loop-entry-preserved c =
    let was = c.loop-entry.invariant in
    record {
      done = was.done ++ c.in-Some.entry.now ∷ [];
      parts = was.parts ∙ ap (λ (rest : List Name). was.done ++ rest) c.in-Some.ensures.steps ∙ sym (append_assoc was.done (c.in-Some.entry.now ∷ []) c.next.new.self);
      reaches = reaches_same _ _ _ _ _ _ (more_named was.done c.in-Some.entry.now) (named_more was.done c.in-Some.entry.now)
          (reaches_both _ _ _ _ _ _ _ _ was.reaches c.in_ok-reach_one.ensures.reaches);
      total = c.in_ok-reach_one.ensures.total ∙ was.total;
    }

pub returns-clause-reaches : goal.returns-clause-reaches
returns-clause-reaches c =
    let was = c.loop-entry.invariant in
    let same = was.parts ∙ ap (λ (rest : List Name). was.done ++ rest) c.in-None.ensures.steps.0 ∙ append-nil was.done in
    reaches_same _ _ _ _ _ _ (λ handle. named_same _ _ handle (sym same)) (λ handle. named_same _ _ handle same) was.reaches
