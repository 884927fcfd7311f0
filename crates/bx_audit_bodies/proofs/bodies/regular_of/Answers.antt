use Rattle.std.proofs.Common.{inr, arith, refl, ap, ◌∙◌, Err}
use Rattle.std.proofs.lemmas.Result.{err_from_is_err_and}
use Rattle.bx_audit_pages.proofs.Ends.{if_torn}
use Rattle.bx_audit_bodies.proofs.BodiesOfTrees.{all_pieces, regular_is}
use Rattle.bx_audit_bodies.specs.Faults.{Itself, Size}
use Rattle.bx_audit_bodies.proofs.FaultsOfParts.{regular_tree_fault}
use Rattle.bx_audit_bodies.proofs.bodies.regular_of.Goals as goal

pub returns-in_err-pieces-clause-torn : goal.returns-in_err-pieces-clause-torn
returns-in_err-pieces-clause-torn g c = λ chunks shows.
    let p = err_from_is_err_and c.from_residual.result c.from_residual.ensures.1 in
    if_torn _ _ c.in_err-pieces.field-0.0 c.from_residual.result (p.1 ∙ ap Err p.2)
    (λ at found wanted never owner tree file body.
    let r = regular_is chunks owner c.args.handle c.args.inode tree file c.requires.kind body in
    never tree r.1.tree.is (all_pieces chunks owner c.args.handle (record { inode = c.args.inode; tree = tree }) r.1.tree r.1.contents))
    (c.in_err-pieces.ensures.torn chunks shows)

pub returns-clause-ok : goal.returns-clause-ok
returns-clause-ok g c = λ chunks shows. (refl, record { has = c.in_ok-pieces.ensures.ok chunks shows; led = c.in_ok-pieces.ensures.led chunks shows })

pub returns-in_err-pieces-clause-part : goal.returns-in_err-pieces-clause-part
returns-in_err-pieces-clause-part g c = λ chunks shows.
    let p = err_from_is_err_and c.from_residual.result c.from_residual.ensures.1 in
    if_torn _ _ c.in_err-pieces.field-0.0 c.from_residual.result (p.1 ∙ ap Err p.2) (λ at found wanted leads. inr leads) (c.in_err-pieces.ensures.leads chunks shows)

pub returns-then-inode-gt-MOST_BYTES-clause-fault : goal.returns-then-inode-gt-MOST_BYTES-clause-fault
returns-then-inode-gt-MOST_BYTES-clause-fault g c = λ chunks shows. rw c.torn_at.ensures (Itself (Size c.requires.kind (omega (arith, c.if-inode-gt-MOST_BYTES.true))) refl)

pub returns-in_err-pieces-clause-fault : goal.returns-in_err-pieces-clause-fault
returns-in_err-pieces-clause-fault g c = λ chunks shows.
    let p = err_from_is_err_and c.from_residual.result c.from_residual.ensures.1 in
    if_torn _ _ c.in_err-pieces.field-0.0 c.from_residual.result (p.1 ∙ ap Err p.2)
    (λ at found wanted torn. regular_tree_fault chunks c.args.handle c.args.inode wanted c.requires.kind torn) (c.in_err-pieces.ensures.first chunks shows)
