use Rattle.bx_homes.proofs.Sectors.{of_some, not_both}
use Rattle.bx_tree_files.specs.declared.file.Name.{Name}
use Rattle.bx_truth.specs.PageTrees.{map_of}
use Rattle.bx_audit_pages.specs.Trees.{tree_of}
use Rattle.bx_audit_files.specs.Names.{Fits, IsByNumber, IsByName, ByNumber, ByName}
use Rattle.bx_audit_files.proofs.NamesOfTrees.{if_ok, not_by_number, not_by_name}
use Rattle.bx_audit_files.proofs.names.put_name.Goals as goal

pub returns-then-not-branch-clause-no : goal.returns-then-not-branch-clause-no
returns-then-not-branch-clause-no c = λ chunks root is no.
    let entry = c.args.entry.now in
    let fits = of_some Fits c.in_ok-name.field-0 c.in-Some.name c.in-Some.is c.in_ok-name.ensures.fits in
    let numbered = of_some (λ (n : Name). IsByNumber n entry) c.in_ok-name.field-0 c.in-Some.name c.in-Some.is c.in_ok-name.ensures.some in
    not_by_number (map_of (tree_of c.args.tree.now)) entry c.in-Some.name fits numbered (λ there. not_both c.in_ok-is_named.field-0 ((c.in_ok-is_named.ensures chunks root is).1 there) c.if-not-branch.true)

pub returns-in-Some-clause-yes : goal.returns-in-Some-clause-yes
returns-in-Some-clause-yes c = λ chunks root is yes.
    let entry = c.args.entry.now in
    let fits = of_some Fits c.in_ok-name.field-0 c.in-Some.name c.in-Some.is c.in_ok-name.ensures.fits in
    let numbered = of_some (λ (n : Name). IsByNumber n entry) c.in_ok-name.field-0 c.in-Some.name c.in-Some.is c.in_ok-name.ensures.some in
    ByNumber c.in-Some.name fits numbered ((c.in_ok-is_named.ensures chunks root is).0 c.if-not-branch.false)

pub returns-in-Some-2-clause-yes : goal.returns-in-Some-2-clause-yes
returns-in-Some-2-clause-yes c = λ chunks root is.
    let entry = c.args.entry.now in
    let fits = of_some Fits c.in_ok-by_name.field-0 c.in-Some-2.name c.in-Some-2.is c.in_ok-by_name.ensures.fits in
    let named = of_some (λ (n : Name). IsByName n entry) c.in_ok-by_name.field-0 c.in-Some-2.name c.in-Some-2.is c.in_ok-by_name.ensures.some in
    if_ok _ _ c.is_numbered.result (λ good both yes. ByName c.in-Some-2.name fits named (both.0 yes)) (c.is_numbered.ensures chunks root is)

pub returns-in-Some-2-clause-no : goal.returns-in-Some-2-clause-no
returns-in-Some-2-clause-no c = λ chunks root is.
    let entry = c.args.entry.now in
    let fits = of_some Fits c.in_ok-by_name.field-0 c.in-Some-2.name c.in-Some-2.is c.in_ok-by_name.ensures.fits in
    let named = of_some (λ (n : Name). IsByName n entry) c.in_ok-by_name.field-0 c.in-Some-2.name c.in-Some-2.is c.in_ok-by_name.ensures.some in
    if_ok _ _ c.is_numbered.result (λ good both no. not_by_name (map_of (tree_of c.args.tree.now)) entry c.in-Some-2.name fits named (λ there. not_both good (both.1 there) no)) (c.is_numbered.ensures chunks root is)
