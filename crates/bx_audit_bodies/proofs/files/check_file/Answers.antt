use Rattle.std.proofs.Common.{List, subst}
use Rattle.std.specs.Prelude.{All}
use Rattle.bx_audit_bodies.specs.Contents.{HasClear}
use Rattle.bx_audit_bodies.specs.Outlines.{ArePartsAt, AreRight}
use Rattle.bx_audit_bodies.specs.Parts.{IsUnclearPiece}
use Rattle.bx_audit_bodies.specs.declared.outlines.Parts.{Parts}
use Rattle.bx_audit_bodies.specs.declared.pieces.Piece.{Piece}
use Rattle.bx_audit_bodies.proofs.Cases.{ok_too, torn_too}
use Rattle.bx_audit_bodies.proofs.Outlined.{readable, unread}
use Rattle.bx_audit_bodies.proofs.files.check_file.Goals as goal

pub returns-in-Whole-clause-ok : goal.returns-in-Whole-clause-ok
returns-in-Whole-clause-ok g c = λ chunks shows is.
    let outline = c.args.outline.now in
    record { file = c.in-Whole.field-0; read = subst (λ (p : Parts). ArePartsAt chunks outline.handle p outline.claims.items) c.in-Whole.is is }

pub returns-in-Pieces-clause-ok : goal.returns-in-Pieces-clause-ok
returns-in-Pieces-clause-ok g c = λ chunks shows is.
    let outline = c.args.outline.now in
    let right = subst AreRight c.in-Pieces.is c.requires.right in
    let at = subst (λ (p : Parts). ArePartsAt chunks outline.handle p outline.claims.items) c.in-Pieces.is is in
    let inode = c.in-Pieces.inode in
    let pieces = c.in-Pieces.pieces.items in
    ok_too _ _ c.check_pieces.result
    (λ clear. readable chunks shows.none outline.handle inode pieces outline.claims.items at.0 at.1 right.1 right.0 right.2
    (subst (All (HasClear chunks inode.tail)) c.deref.ensures.value clear))
    (c.check_pieces.ensures.ok chunks shows)

pub returns-in-Pieces-clause-torn : goal.returns-in-Pieces-clause-torn
returns-in-Pieces-clause-torn g c = λ chunks shows is.
    let outline = c.args.outline.now in
    let right = subst AreRight c.in-Pieces.is c.requires.right in
    let at = subst (λ (p : Parts). ArePartsAt chunks outline.handle p outline.claims.items) c.in-Pieces.is is in
    let inode = c.in-Pieces.inode in
    let pieces = c.in-Pieces.pieces.items in
    torn_too _ _ c.check_pieces.result
    (λ block found wanted torn. unread chunks shows.none outline.handle inode pieces outline.claims.items at.0 at.1 right.1 wanted
    (subst (λ (l : List Piece). IsUnclearPiece chunks l inode.tail wanted) c.deref.ensures.value torn))
    (c.check_pieces.ensures.wrong chunks shows)
