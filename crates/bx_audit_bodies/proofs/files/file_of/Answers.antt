use Rattle.std.proofs.Common.{List, Some, Err, sym, ap, ◌∙◌, subst}
use Rattle.std.specs.Prelude.{All}
use Rattle.std.proofs.lemmas.Result.{err_from_is_err_and}
use Rattle.bx_audit_bodies.specs.Outlines.{ArePartsAt, AreRight}
use Rattle.bx_audit_bodies.specs.Parts.{IsUnclearPiece}
use Rattle.bx_audit_bodies.specs.Pieces.{AreApart, HasPiece, piece_among}
use Rattle.bx_audit_bodies.specs.Reading.{IsReadAs}
use Rattle.bx_audit_bodies.specs.declared.outlines.Parts.{Parts}
use Rattle.bx_audit_bodies.specs.declared.pieces.Piece.{Piece}
use Rattle.bx_audit_bodies.proofs.Outlined.{filled, unread}
use Rattle.bx_audit_pages.proofs.Ends.{if_torn}
use Rattle.bx_tree_files.specs.declared.file.File.{File}
use Rattle.bx_truth.specs.Stored.{AreBytesOf}
use Rattle.bx_audit_bodies.proofs.files.file_of.Goals as goal

pub returns-in-Whole-clause-ok : goal.returns-in-Whole-clause-ok
returns-in-Whole-clause-ok g c = λ chunks shows is.
    let outline = c.args.outline in
    subst (λ (p : Parts). ArePartsAt chunks outline.handle p outline.claims.items) c.in-Whole.is is

pub returns-in-Whole-clause-is : goal.returns-in-Whole-clause-is
returns-in-Whole-clause-is g c = (subst AreRight c.in-Whole.is c.requires.right).0

pub returns-in-Whole-clause-apart : goal.returns-in-Whole-clause-apart
returns-in-Whole-clause-apart g c = (subst AreRight c.in-Whole.is c.requires.right).1

pub returns-in_err-content-in-Pieces-clause-torn : goal.returns-in_err-content-in-Pieces-clause-torn
returns-in_err-content-in-Pieces-clause-torn g c = λ chunks shows is.
    let p = err_from_is_err_and c.from_residual.result c.from_residual.ensures.1 in
    let outline = c.args.outline in
    let right = subst AreRight c.in-Pieces.is c.requires.right in
    let at = subst (λ (p : Parts). ArePartsAt chunks outline.handle p outline.claims.items) c.in-Pieces.is is in
    let inode = c.in-Pieces.inode in
    if_torn _ _ c.in_err-content-in-Pieces.field-0.0 c.from_residual.result (p.1 ∙ ap Err p.2)
    (λ block found wanted torn. unread chunks shows.none outline.handle inode c.in-Pieces.pieces.items outline.claims.items at.0 at.1 right.1 wanted
    (subst (λ (l : List Piece). IsUnclearPiece chunks l inode.tail wanted) c.deref.ensures.value torn))
    (c.in_err-content-in-Pieces.ensures.wrong chunks shows)

pub returns-clause-ok : goal.returns-clause-ok
returns-clause-ok g c = λ chunks shows is.
    let outline = c.args.outline in
    let right = subst AreRight c.in-Pieces.is c.requires.right in
    let at = subst (λ (p : Parts). ArePartsAt chunks outline.handle p outline.claims.items) c.in-Pieces.is is in
    let inode = c.in-Pieces.inode in
    let pieces = c.in-Pieces.pieces.items in
    let content = c.in_ok-content-in-Pieces.content in
    subst (λ (f : File). IsReadAs chunks outline.handle (Some f) outline.claims.items) (sym c.file_with.ensures)
    (filled chunks shows.none outline.handle inode pieces outline.claims.items at.0 at.1 right.1 content right.0 right.2
    (subst (All (HasPiece chunks)) c.deref.ensures.value (c.in_ok-content-in-Pieces.ensures.pieces chunks shows))
    (λ apart. subst (λ (l : List Piece). AreBytesOf (piece_among chunks l) inode.size inode.tail content) c.deref.ensures.value
    (c.in_ok-content-in-Pieces.ensures.bytes chunks shows (subst AreApart (sym c.deref.ensures.value) apart))))
