use Rattle.std.proofs.Common.{inr, List, Some, arith, refl, sym, ap, ◌∙◌, Err, subst}
use Rattle.std.proofs.lemmas.Result.{err_from_is_err_and}
use Rattle.bx_homes.proofs.Sectors.{of_some, of_none}
use Rattle.bx_page.specs.declared.entry.Entry.{Entry}
use Rattle.bx_tree_files.specs.declared.file.File.{File}
use Rattle.bx_truth.specs.Stored.{AreNames}
use Rattle.bx_truth.proofs.OneTree.{one_map}
use Rattle.bx_audit_pages.proofs.Ends.{if_torn}
use Rattle.bx_audit_pages.specs.Trees.{tree_of}
use Rattle.bx_audit_bodies.specs.Bodies.{HasBodyOf}
use Rattle.bx_audit_bodies.specs.Faults.{Itself, Names, Next, Page}
use Rattle.bx_audit_bodies.proofs.BodiesOfTrees.{directory_is, directory_read}
use Rattle.bx_audit_bodies.proofs.FaultsOfParts.{of_directory}
use Rattle.bx_audit_bodies.proofs.bodies.directory_of.Goals as goal

pub returns-in_err-tree-clause-torn : goal.returns-in_err-tree-clause-torn
returns-in_err-tree-clause-torn g c = λ chunks shows.
    let p = err_from_is_err_and c.from_residual.result c.from_residual.ensures.1 in
    if_torn _ _ c.in_err-tree.field-0.0 c.from_residual.result (p.1 ∙ ap Err p.2)
    (λ at found wanted never owner tree file body. let d = directory_is chunks owner c.args.handle c.args.inode.now tree file c.requires.kind body in never tree d.1.is)
    (c.in_err-tree.ensures.torn chunks shows)

pub returns-in_default-clause-torn : goal.returns-in_default-clause-torn
returns-in_default-clause-torn g c = λ chunks shows.
    rw c.torn_at-in_default.ensures (λ owner tree file body.
    let is = c.in_ok-tree.ensures.ok chunks shows in
    let d = directory_is chunks owner c.args.handle c.args.inode.now tree file c.requires.kind body in
    of_none c.in_ok-names.field-0 c.in_default.is (c.in_ok-names.ensures.none chunks c.args.inode.now.tree is) d.0
    (subst (λ (l : List Entry). AreNames l d.0) (one_map chunks c.args.inode.now.tree tree (tree_of c.in_ok-tree.tree) d.1.is is) d.2) d.4)

pub returns-clause-ok : goal.returns-clause-ok
returns-clause-ok g c = λ chunks shows.
    let inode = c.args.inode.now in
    let is = c.in_ok-tree.ensures.ok chunks shows in
    let are = of_some _ c.in_ok-names.field-0 c.in-Some.names c.in-Some.is (c.in_ok-names.ensures.some chunks inode.tree is) in
    let below = of_some _ c.in_ok-names.field-0 c.in-Some.names c.in-Some.is c.in_ok-names.ensures.below in
    subst (λ (f : File). HasBodyOf chunks c.args.handle inode (Some f) c.in_ok-claims.claims.items) (sym c.file_with-file.ensures)
    (directory_read chunks shows.none inode c.in_ok-tree.tree c.in_ok-claims.claims.items c.in-Some.names is c.in_ok-claims.ensures are c.args.handle c.requires.inode c.requires.kind c.if-inode.false below)

pub returns-in_err-tree-clause-part : goal.returns-in_err-tree-clause-part
returns-in_err-tree-clause-part g c = λ chunks shows.
    let p = err_from_is_err_and c.from_residual.result c.from_residual.ensures.1 in
    if_torn _ _ c.in_err-tree.field-0.0 c.from_residual.result (p.1 ∙ ap Err p.2) (λ at found wanted leads. inr leads) (c.in_err-tree.ensures.leads chunks shows)

pub returns-then-inode-clause-fault : goal.returns-then-inode-clause-fault
returns-then-inode-clause-fault g c = λ chunks shows. rw c.torn_at.ensures (Itself (Next c.requires.kind (omega (arith, c.if-inode.true))) refl)

pub returns-in_err-tree-clause-fault : goal.returns-in_err-tree-clause-fault
returns-in_err-tree-clause-fault g c = λ chunks shows.
    let p = err_from_is_err_and c.from_residual.result c.from_residual.ensures.1 in
    if_torn _ _ c.in_err-tree.field-0.0 c.from_residual.result (p.1 ∙ ap Err p.2)
    (λ at found wanted torn. Page (of_directory chunks c.args.handle c.args.inode.now wanted c.requires.kind) torn) (c.in_err-tree.ensures.wrong chunks shows)

pub returns-in_default-clause-fault : goal.returns-in_default-clause-fault
returns-in_default-clause-fault g c = λ chunks shows.
    let is = c.in_ok-tree.ensures.ok chunks shows in
    rw c.torn_at-in_default.ensures (Itself (Names c.requires.kind (tree_of c.in_ok-tree.tree) is
    (of_none c.in_ok-names.field-0 c.in_default.is (c.in_ok-names.ensures.none chunks c.args.inode.now.tree is))) refl)
