use Rattle.std.proofs.Common.{◌≡◌, ℕ, List, Some, None, sym, ap, ◌∙◌}
use Rattle.bx_audit_pages.specs.Trees.{tree_of}
use Rattle.bx_page.specs.Contents.{value_of}
use Rattle.bx_truth.specs.PageTrees.{map_of}
use Rattle.bx_audit_files.proofs.names.has.Goals as goal

none_some : (x : List ℕ) → None ≡ Some x → ⊥
none_some x e = cc

some_same : (x y : List ℕ) → Some x ≡ Some y → x ≡ y
some_same x y e = cc

pub returns-in-None : goal.returns-in-None
returns-in-None c = λ chunks root is.
    let map = map_of (tree_of c.args.tree.now) in
    (λ e. absurd cc, λ there. absurd (none_some c.args.value.now (c.in-None.ensures chunks root is ∙ ap (value_of map) c.bytes.ensures ∙ there)))

pub returns-in-Some : goal.returns-in-Some
returns-in-Some c = λ chunks root is.
    let map = map_of (tree_of c.args.tree.now) in
    let has : Some c.in-Some.found.now ≡ value_of map c.args.key.now = c.in-Some.ensures chunks root is ∙ ap (value_of map) c.bytes.ensures in
    (λ t. sym has ∙ ap Some (c.is_same.ensures.0 t), λ there. c.is_same.ensures.1 (some_same c.in-Some.found.now c.args.value.now (has ∙ there)))
