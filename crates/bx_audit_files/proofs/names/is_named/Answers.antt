use Rattle.std.proofs.Common.{◌≡◌, List, ℕ, Some, ap, ◌∙◌, subst}
use Rattle.std.specs.Prelude.{IsTrue, ◌↔◌}
use Rattle.bx_audit_pages.specs.Trees.{tree_of}
use Rattle.bx_page.specs.Contents.{value_of}
use Rattle.bx_truth.specs.Keys.{name_key, name_value}
use Rattle.bx_truth.specs.PageTrees.{map_of}
use Rattle.bx_audit_files.proofs.names.is_named.Goals as goal

pub returns : goal.returns
returns c = λ chunks root is.
    let map = map_of (tree_of c.args.tree.now) in
    subst (λ (k : List ℕ). IsTrue c.has.result ↔ (value_of map k ≡ Some (name_value c.args.name.now.number c.args.name.now.handle))) (c.in_ok-key.ensures ∙ ap name_key c.bytes.ensures)
    (subst (λ (v : List ℕ). IsTrue c.has.result ↔ (value_of map c.in_ok-key.key ≡ Some v)) c.in_ok-value.ensures (c.has.ensures chunks root is))
