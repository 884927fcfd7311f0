use Rattle.std.proofs.Common.{List, ◌++◌, take, drop, sym, ap, subst, ◌∙◌, arith}
use Rattle.std.specs.Prelude.{All}
use Rattle.std.proofs.lemmas.List.{append_assoc, take_all}
use Rattle.std.proofs.lemmas.List.Elements.{All-append}
use Rattle.bx_page.specs.declared.entry.Entry.{Entry}
use Rattle.bx_tree_files.specs.declared.file.Name.{Name}
use Rattle.bx_truth.specs.PageTrees.{map_of}
use Rattle.bx_audit_pages.specs.Trees.{tree_of}
use Rattle.bx_audit_files.specs.Names.{IsPaired, names_in}
use Rattle.bx_audit_files.proofs.PairedEntries.{names_of_both}
use Rattle.bx_audit_files.proofs.Steps.{one_more, all_there}
use Rattle.bx_audit_files.proofs.names.put_names.Goals as goal

pub returns-then-not-branch-clause-no : goal.returns-then-not-branch-clause-no
returns-then-not-branch-clause-no c = λ chunks root is no all.
    c.in_ok-put_at.ensures.no chunks root is c.if-not-branch.true (all_there (IsPaired (map_of (tree_of c.args.tree.now))) c.args.page.now.entries c.loop-at.at all)

pub loop-at-preserved : goal.loop-at-preserved
loop-at-preserved c =
    let entries = c.args.page.now.entries in
    let at = c.loop-at.at in
    let before = c.args.names.now.items in
    record {
      names = c.in_ok-put_at.ensures.names c.if-not-branch.false
          ∙ ap (λ (l : List Name). l ++ names_in (take 1 (drop at entries))) c.loop-at.invariant.names
          ∙ append_assoc before (names_in (take at entries)) (names_in (take 1 (drop at entries)))
          ∙ ap (λ (l : List Name). before ++ l) (sym (names_of_both (take at entries) (take 1 (drop at entries))))
          ∙ ap (λ (l : List Entry). before ++ names_in l) (sym (one_more entries at));
      paired = λ chunks root is.
          subst (All (IsPaired (map_of (tree_of c.args.tree.now)))) (sym (one_more entries at))
          (All-append (IsPaired (map_of (tree_of c.args.tree.now))) (take at entries) (take 1 (drop at entries)) (c.loop-at.invariant.paired chunks root is) (c.in_ok-put_at.ensures.yes chunks root is c.if-not-branch.false));
    }

pub returns-clause-yes : goal.returns-clause-yes
returns-clause-yes c = λ chunks root is yes.
    subst (All (IsPaired (map_of (tree_of c.args.tree.now)))) (take_all c.loop-at.at c.args.page.now.entries (omega (arith, c.loop-at-test.false, c.len-at-end.ensures))) (c.loop-at.invariant.paired chunks root is)
