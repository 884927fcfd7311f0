use Rattle.std.proofs.Common.{sym, ap, ◌∙◌}
use Rattle.bx_truth.specs.PageTrees.{Node}
use Rattle.bx_audit_pages.proofs.NodeLists.{one_beginning}
use Rattle.bx_audit_pages.proofs.children.names_page.Goals as goal

pub returns-in-None : goal.returns-in-None
returns-in-None c = (λ e. absurd cc, λ names. absurd (c.in-None.ensures.none names.child names.there (sym names.key ∙ sym c.bytes.ensures)))

pub returns-in-Some : goal.returns-in-Some
returns-in-Some c =
    let page = c.in-Some.page.now in
    let is = c.in-Some.ensures.some in
    let handle = ap (λ (n : Node). n.handle) c.page.view_is in (
      λ has. let v = c.has_handle.ensures.0 has in record { child = page; there = is.0; eight = v.0; value = v.1 ∙ handle; key = sym (is.1 ∙ c.bytes.ensures) },
      λ names. c.has_handle.ensures.1 (names.eight, names.value ∙ ap (λ (n : Node). n.handle) (one_beginning c.args.below.now names.child page c.requires names.there is.0 (sym names.key ∙ sym (is.1 ∙ c.bytes.ensures))) ∙ sym handle),
    )
