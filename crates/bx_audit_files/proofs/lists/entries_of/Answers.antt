use Rattle.std.proofs.Common.{◌≡◌, sym, subst, ◌∙◌}
use Rattle.bx_homes.proofs.Sectors.{of_some, of_none}
use Rattle.bx_truth.specs.PageTrees.{map_of}
use Rattle.bx_truth.specs.Stored.{AreNames}
use Rattle.bx_truth.proofs.OneFile.{one_names}
use Rattle.bx_audit_pages.specs.Trees.{tree_of}
use Rattle.bx_audit_files.proofs.NamesOfTrees.{if_none, if_ok, if_some}
use Rattle.bx_audit_files.specs.Lists.{AreListed}
use Rattle.bx_audit_files.proofs.Followers.{names_listed}
use Rattle.bx_audit_files.proofs.lists.entries_of.Goals as goal

pub returns-in_default-clause-none : goal.returns-in_default-clause-none
returns-in_default-clause-none c = λ chunks root is names are below.
    of_none c.in_ok-names.field-0 c.in_default.is (c.in_ok-names.ensures.none chunks root is) names are

pub returns-clause-some : goal.returns-clause-some
returns-clause-some c = λ chunks root is.
    let map = map_of (tree_of c.args.tree.now) in
    let are = of_some _ c.in_ok-names.field-0 c.in-Some.names c.in-Some.is (c.in_ok-names.ensures.some chunks root is) in
    if_ok _ _ c.list_of.result
    (λ found holds. if_some _ _ found (λ list same. subst (AreNames map) (sym (same ∙ c.deref.ensures.value)) are) holds) c.list_of.ensures.some

pub returns-clause-none : goal.returns-clause-none
returns-clause-none c = λ chunks root is.
    let map = map_of (tree_of c.args.tree.now) in
    let are = of_some _ c.in_ok-names.field-0 c.in-Some.names c.in-Some.is (c.in_ok-names.ensures.some chunks root is) in
    if_ok _ _ c.list_of.result
    (λ found holds. if_none _ _ found (λ never names others below.
    let same : names ≡ c.deref.result.now = one_names map names c.in-Some.names.items others are ∙ sym c.deref.ensures.value in
    never (subst (AreListed c.args.next) same (names_listed map names c.args.next others below))) holds) c.list_of.ensures.none
