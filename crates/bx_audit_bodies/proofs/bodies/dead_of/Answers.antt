use Rattle.std.proofs.Common.{inr, List, sym, ap, ◌∙◌, Err, subst}
use Rattle.std.specs.Prelude.{All}
use Rattle.std.proofs.lemmas.Result.{err_from_is_err_and}
use Rattle.bx_audit_pages.proofs.Ends.{if_torn}
use Rattle.bx_audit_bodies.specs.Pieces.{HasPiece}
use Rattle.bx_audit_bodies.proofs.BodiesOfTrees.{dead_pieces, dead_blocks, dead_alone, dead_read}
use Rattle.bx_audit_bodies.specs.Parts.{IsFirstPiece, IsOfOne, Lost, Tree}
use Rattle.bx_audit_pages.specs.Trees.{tree_of}
use Rattle.bx_audit_bodies.specs.declared.pieces.Piece.{Piece}
use Rattle.bx_audit_bodies.proofs.FaultsOfParts.{dead_fault}
use Rattle.bx_audit_bodies.proofs.PartsLed.{one_led}
use Rattle.bx_audit_bodies.proofs.bodies.dead_of.Goals as goal

pub returns-then-inode-eq0-clause-ok : goal.returns-then-inode-eq0-clause-ok
returns-then-inode-eq0-clause-ok g c = λ chunks shows. dead_alone chunks c.args.handle c.args.inode.now c.new.result.items c.new.ensures.items c.if-inode-eq0.true c.requires.kind

pub returns-in_err-pieces-clause-torn : goal.returns-in_err-pieces-clause-torn
returns-in_err-pieces-clause-torn g c = λ chunks shows.
    let p = err_from_is_err_and c.from_residual.result c.from_residual.ensures.1 in
    if_torn _ _ c.in_err-pieces.field-0.0 c.from_residual.result (p.1 ∙ ap Err p.2)
    (λ at found wanted never owner tree file body.
    let d = dead_pieces chunks owner c.args.handle c.args.inode.now tree file c.requires.kind c.if-inode-eq0.false body in never tree d.0 d.1)
    (c.in_err-pieces.ensures.torn chunks shows)

pub returns-in_err-read_pieces-clause-torn : goal.returns-in_err-read_pieces-clause-torn
returns-in_err-read_pieces-clause-torn g c = λ chunks shows.
    let p = err_from_is_err_and c.from_residual-in_err-read_pieces.result c.from_residual-in_err-read_pieces.ensures.1 in
    if_torn _ _ c.in_err-read_pieces.field-0.0 c.from_residual-in_err-read_pieces.result (p.1 ∙ ap Err p.2)
    (λ at found wanted never owner tree file body.
    never (subst (All (HasPiece chunks)) (sym c.deref.ensures.value)
    (dead_blocks chunks shows.none c.args.inode.now c.in_ok-pieces.pieces.items c.in_ok-pieces.claims.items (c.in_ok-pieces.ensures.ok chunks shows) owner c.args.handle tree file c.requires.kind c.if-inode-eq0.false body)))
    (c.in_err-read_pieces.ensures.torn chunks (c.in_ok-pieces.ensures.shows chunks shows))

pub returns-clause-ok : goal.returns-clause-ok
returns-clause-ok g c = λ chunks shows.
    dead_read chunks shows.none c.args.inode.now c.in_ok-pieces.pieces.items c.in_ok-pieces.claims.items (c.in_ok-pieces.ensures.ok chunks shows)
    (subst (All (HasPiece chunks)) c.deref.ensures.value (c.in_ok-read_pieces.ensures.ok chunks (c.in_ok-pieces.ensures.shows chunks shows))) c.args.handle c.requires.kind

pub returns-in_err-pieces-clause-part : goal.returns-in_err-pieces-clause-part
returns-in_err-pieces-clause-part g c = λ chunks shows.
    let p = err_from_is_err_and c.from_residual.result c.from_residual.ensures.1 in
    if_torn _ _ c.in_err-pieces.field-0.0 c.from_residual.result (p.1 ∙ ap Err p.2) (λ at found wanted leads. inr leads) (c.in_err-pieces.ensures.leads chunks shows)

pub returns-in_err-read_pieces-clause-part : goal.returns-in_err-read_pieces-clause-part
returns-in_err-read_pieces-clause-part g c = λ chunks shows.
    let p = err_from_is_err_and c.from_residual-in_err-read_pieces.result c.from_residual-in_err-read_pieces.ensures.1 in
    if_torn _ _ c.in_err-read_pieces.field-0.0 c.from_residual-in_err-read_pieces.result (p.1 ∙ ap Err p.2) (λ at found wanted one. inr (one_led chunks c.args.inode.now.tree wanted c.in_ok-pieces.pieces.items (c.in_ok-pieces.ensures.led chunks shows)
    (subst (λ (l : List Piece). IsOfOne l wanted) c.deref.ensures.value one))) (c.in_err-read_pieces.ensures.names)

pub returns-in_err-read_pieces-clause-shows : goal.returns-in_err-read_pieces-clause-shows
returns-in_err-read_pieces-clause-shows g c = λ chunks shows. c.in_err-read_pieces.ensures.shows chunks (c.in_ok-pieces.ensures.shows chunks shows)

pub returns-clause-shows : goal.returns-clause-shows
returns-clause-shows g c = λ chunks shows. c.in_ok-read_pieces.ensures.shows chunks (c.in_ok-pieces.ensures.shows chunks shows)

pub returns-in_err-pieces-clause-first : goal.returns-in_err-pieces-clause-first
returns-in_err-pieces-clause-first g c = λ chunks shows.
    let p = err_from_is_err_and c.from_residual.result c.from_residual.ensures.1 in
    if_torn _ _ c.in_err-pieces.field-0.0 c.from_residual.result (p.1 ∙ ap Err p.2) (λ at found wanted torn. Tree torn) (c.in_err-pieces.ensures.first chunks shows)

pub returns-in_err-read_pieces-clause-first : goal.returns-in_err-read_pieces-clause-first
returns-in_err-read_pieces-clause-first g c = λ chunks shows.
    let p = err_from_is_err_and c.from_residual-in_err-read_pieces.result c.from_residual-in_err-read_pieces.ensures.1 in
    let has = c.in_ok-pieces.ensures.ok chunks shows in
    if_torn _ _ c.in_err-read_pieces.field-0.0 c.from_residual-in_err-read_pieces.result (p.1 ∙ ap Err p.2)
    (λ at found wanted first. Lost (tree_of has.levels) c.in_ok-pieces.pieces.items has.is has.are_pieces (subst (λ (l : List Piece). IsFirstPiece chunks l wanted) c.deref.ensures.value first))
    (c.in_err-read_pieces.ensures.first chunks (c.in_ok-pieces.ensures.shows chunks shows))

pub returns-in_err-pieces-clause-fault : goal.returns-in_err-pieces-clause-fault
returns-in_err-pieces-clause-fault g c = λ chunks shows.
    let p = err_from_is_err_and c.from_residual.result c.from_residual.ensures.1 in
    if_torn _ _ c.in_err-pieces.field-0.0 c.from_residual.result (p.1 ∙ ap Err p.2)
    (λ at found wanted torn. dead_fault chunks c.args.handle c.args.inode.now wanted c.requires.kind c.if-inode-eq0.false (Tree torn)) (c.in_err-pieces.ensures.first chunks shows)

pub returns-in_err-read_pieces-clause-fault : goal.returns-in_err-read_pieces-clause-fault
returns-in_err-read_pieces-clause-fault g c = λ chunks shows.
    let p = err_from_is_err_and c.from_residual-in_err-read_pieces.result c.from_residual-in_err-read_pieces.ensures.1 in
    let has = c.in_ok-pieces.ensures.ok chunks shows in
    if_torn _ _ c.in_err-read_pieces.field-0.0 c.from_residual-in_err-read_pieces.result (p.1 ∙ ap Err p.2)
    (λ at found wanted first. dead_fault chunks c.args.handle c.args.inode.now wanted c.requires.kind c.if-inode-eq0.false
    (Lost (tree_of has.levels) c.in_ok-pieces.pieces.items has.is has.are_pieces (subst (λ (l : List Piece). IsFirstPiece chunks l wanted) c.deref.ensures.value first)))
    (c.in_err-read_pieces.ensures.first chunks (c.in_ok-pieces.ensures.shows chunks shows))
