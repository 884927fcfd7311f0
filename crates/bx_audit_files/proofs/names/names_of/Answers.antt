use Rattle.std.proofs.Common.{◌≡◌, List, ◌++◌, take, sym, ap, subst, ◌∙◌}
use Rattle.std.specs.Prelude.{All}
use Rattle.std.proofs.lemmas.List.{take_all}
use Rattle.std.proofs.lemmas.List.Elements.{All-append}
use Rattle.bx_page.specs.Contents.{Contents}
use Rattle.bx_tree_files.specs.declared.file.Name.{Name}
use Rattle.bx_truth.specs.PageTrees.{Node, map_of, entries_of}
use Rattle.bx_truth.specs.Stored.{AreNames}
use Rattle.bx_audit_pages.specs.Trees.{tree_of}
use Rattle.bx_audit_files.specs.Names.{IsPaired, names_in}
use Rattle.bx_audit_files.proofs.NamesOfTrees.{are_names, are_paired}
use Rattle.bx_audit_files.proofs.PairedEntries.{names_of_both}
use Rattle.bx_audit_files.proofs.Rising.{map_rises}
use Rattle.bx_audit_files.proofs.Steps.{leaf_more, leaf_of_all}
use Rattle.bx_audit_files.proofs.names.names_of.Goals as goal

pub returns-then-not-branch-clause-none : goal.returns-then-not-branch-clause-none
returns-then-not-branch-clause-none c = λ chunks root is names are.
    let map = map_of (tree_of c.args.tree.now) in
    let leaf = c.leaf-item.result in
    let all = are_paired map (map_rises chunks root (tree_of c.args.tree.now) is) names are in
    let on = subst (λ (l : List Node). All (IsPaired map) (entries_of l)) (sym c.leaves-leaves.ensures.leaves) all in
    let page = leaf_of_all (IsPaired map) c.leaves-leaves.result.now c.loop-leaf.leaf-index leaf c.loop-leaf-test.true on in
    c.in_ok-put_names.ensures.no chunks root is c.if-not-branch.true
    (subst (λ (p : Contents). All (IsPaired map) p.entries) (sym c.page.ensures) (subst (λ (n : Node). All (IsPaired map) n.page.entries) (sym c.leaf-item.is) page))

pub loop-leaf-preserved : goal.loop-leaf-preserved
loop-leaf-preserved c =
    let map = map_of (tree_of c.args.tree.now) in
    let leaves = c.leaves-leaves.result.now in
    let at = c.loop-leaf.leaf-index in
    let leaf = c.leaf-item.result in
    let more = leaf_more leaves at leaf c.loop-leaf-test.true c.leaf-item.is in
    record {
      names = c.in_ok-put_names.ensures.names c.if-not-branch.false
          ∙ ap (λ (l : List Name). l ++ names_in c.page.result.now.entries) c.loop-leaf.invariant.names
          ∙ ap (λ (p : Contents). names_in (entries_of (take at leaves)) ++ names_in p.entries) c.page.ensures
          ∙ sym (names_of_both (entries_of (take at leaves)) leaf.page.entries)
          ∙ ap names_in (sym more);
      paired = λ chunks root is.
          subst (All (IsPaired map)) (sym more)
          (All-append (IsPaired map) (entries_of (take at leaves)) leaf.page.entries (c.loop-leaf.invariant.paired chunks root is)
          (subst (λ (p : Contents). All (IsPaired map) p.entries) c.page.ensures (c.in_ok-put_names.ensures.yes chunks root is c.if-not-branch.false)));
    }

pub returns-clause-some : goal.returns-clause-some
returns-clause-some c = λ chunks root is.
    let map = map_of (tree_of c.args.tree.now) in
    let whole : entries_of (take c.loop-leaf.leaf-index c.leaves-leaves.result.now) ≡ map =
    ap entries_of (take_all c.loop-leaf.leaf-index c.leaves-leaves.result.now c.loop-leaf-test.false ∙ c.leaves-leaves.ensures.leaves) in
    subst (AreNames map) (sym (c.loop-leaf.invariant.names ∙ ap names_in whole))
    (are_names map (map_rises chunks root (tree_of c.args.tree.now) is) (subst (All (IsPaired map)) whole (c.loop-leaf.invariant.paired chunks root is)))
