use Rattle.std.proofs.Common.{List, ◌++◌, sym, ap, subst, ◌∙◌, arith}
use Rattle.std.specs.Prelude.{All}
use Rattle.std.proofs.lemmas.List.{append-nil}
use Rattle.bx_page.specs.declared.entry.Entry.{Entry}
use Rattle.bx_truth.specs.PageTrees.{map_of}
use Rattle.bx_audit_pages.specs.Trees.{tree_of}
use Rattle.bx_audit_files.specs.Names.{IsPaired, names_in}
use Rattle.bx_audit_files.proofs.NamesOfTrees.{if_ok}
use Rattle.bx_audit_files.proofs.Steps.{one_there, none_there, all_one, one_of_all}
use Rattle.bx_audit_files.proofs.names.put_at.Goals as goal

pub returns-in-None-clause-yes : goal.returns-in-None-clause-yes
returns-in-None-clause-yes c = λ chunks root is yes.
    subst (All (IsPaired (map_of (tree_of c.args.tree.now)))) (sym (none_there c.args.page.now.entries c.args.at c.in-None.ensures)) (λ k d less. absurd (omega (arith, less)))

pub returns-in-None-clause-names : goal.returns-in-None-clause-names
returns-in-None-clause-names c = λ yes.
    sym (ap (λ (l : List Entry). c.args.names.now.items ++ names_in l) (none_there c.args.page.now.entries c.args.at c.in-None.ensures) ∙ append-nil c.args.names.now.items)

pub returns-in-Some-clause-yes : goal.returns-in-Some-clause-yes
returns-in-Some-clause-yes c = λ chunks root is.
    let E = map_of (tree_of c.args.tree.now) in
    let same = one_there c.args.page.now.entries c.args.at c.in-Some.entry.now c.in-Some.ensures in
    if_ok _ _ c.put_name.result (λ good holds yes. subst (All (IsPaired E)) (sym same) (all_one (IsPaired E) c.in-Some.entry.now (holds yes))) (c.put_name.ensures.yes chunks root is)

pub returns-in-Some-clause-no : goal.returns-in-Some-clause-no
returns-in-Some-clause-no c = λ chunks root is.
    let E = map_of (tree_of c.args.tree.now) in
    let same = one_there c.args.page.now.entries c.args.at c.in-Some.entry.now c.in-Some.ensures in
    if_ok _ _ c.put_name.result (λ good never no all. never no (one_of_all (IsPaired E) c.in-Some.entry.now (subst (All (IsPaired E)) same all))) (c.put_name.ensures.no chunks root is)

pub returns-in-Some-clause-names : goal.returns-in-Some-clause-names
returns-in-Some-clause-names c =
    let same = one_there c.args.page.now.entries c.args.at c.in-Some.entry.now c.in-Some.ensures in
    if_ok _ _ c.put_name.result (λ good holds yes. holds yes ∙ ap (λ (l : List Entry). c.args.names.now.items ++ names_in l) (sym same)) c.put_name.ensures.names
