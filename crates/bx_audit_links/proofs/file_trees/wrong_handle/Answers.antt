use Rattle.std.proofs.Common.{arith, refl, sym, ◌∙◌, inl, inr}
use Rattle.bx_audit_links.proofs.Found.{none_weaker, some_weaker}
use Rattle.bx_audit_links.proofs.FileTree.{is_tree, right_of}
use Rattle.bx_audit_links.proofs.Kept.{kept_is}
use Rattle.bx_audit_links.proofs.file_trees.wrong_handle.Goals as goal

pub returns-in-Some-clause-some : goal.returns-in-Some-clause-some
returns-in-Some-clause-some c = λ was. c.in-Some.ensures.some.wrong (right_of c.args.tree.now was c.in-Some.ensures.some.file c.in-Some.ensures.some.there)

pub returns-clause-none : goal.returns-clause-none
returns-clause-none c = none_weaker _ _ _ (is_tree c.args.tree.now c.requires.order c.wrong_in.ensures.are_files (c.is_root.ensures.yes c.if-not-is_root.false)
    (kept_is _ 0 (omega arith) (sym (c.requires.counted c.args.tree.now.root) ∙ sym c.count_of.ensures ∙ c.if-count_of-ne0.false)) c.in_default.ensures.none) c.in_ok-lost.ensures.none

pub returns-clause-some : goal.returns-clause-some
returns-clause-some c = c.in_ok-lost.ensures.some c.args.tree.now refl refl

pub returns-in-Some-clause-cause : goal.returns-in-Some-clause-cause
returns-in-Some-clause-cause c = inr (
  (
    c.is_root.ensures.yes c.if-not-is_root.false,
    kept_is _ 0 (omega arith) (sym (c.requires.counted c.args.tree.now.root) ∙ sym c.count_of.ensures ∙ c.if-count_of-ne0.false),
  ),
  inl c.in-Some.ensures.some,
)

pub returns-clause-cause : goal.returns-clause-cause
returns-clause-cause c =
    let none = kept_is _ 0 (omega arith) (sym (c.requires.counted c.args.tree.now.root) ∙ sym c.count_of.ensures ∙ c.if-count_of-ne0.false) in
    some_weaker _ _ _ (λ handle is. inr ((c.is_root.ensures.yes c.if-not-is_root.false, none), inr (is, c.in_default.ensures.none))) c.in_ok-lost.ensures.is
