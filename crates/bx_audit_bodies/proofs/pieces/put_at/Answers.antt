use Rattle.std.proofs.Common.{List, [], ◌∷◌, ◌++◌, sym, ap, subst, ◌∙◌, arith}
use Rattle.std.specs.Prelude.{All, map}
use Rattle.std.proofs.lemmas.List.{append-nil}
use Rattle.bx_page.specs.declared.entry.Entry.{Entry}
use Rattle.bx_audit_files.proofs.Steps.{one_there, none_there, all_one, one_of_all}
use Rattle.bx_audit_bodies.specs.Pieces.{IsPieceEntry, piece_in}
use Rattle.bx_audit_bodies.specs.declared.pieces.Piece.{Piece}
use Rattle.bx_audit_bodies.proofs.EntriesOfPieces.{tells}
use Rattle.bx_audit_bodies.proofs.pieces.put_at.Goals as goal

pub returns-in_default-clause-yes : goal.returns-in_default-clause-yes
returns-in_default-clause-yes c = λ yes.
    subst (All IsPieceEntry) (sym (none_there c.args.page.now.entries c.args.at c.in_default.ensures)) (λ k d less. absurd (omega (arith, less)))

pub returns-in_default-clause-pieces : goal.returns-in_default-clause-pieces
returns-in_default-clause-pieces c = λ yes.
    sym (ap (λ (l : List Entry). c.args.pieces.now.items ++ map piece_in l) (none_there c.args.page.now.entries c.args.at c.in_default.ensures) ∙ append-nil c.args.pieces.now.items)

pub returns-in_default-piece_of-clause-no : goal.returns-in_default-piece_of-clause-no
returns-in_default-piece_of-clause-no c = λ no all.
    c.in_default-piece_of.ensures.none
    (one_of_all IsPieceEntry c.in-Some.entry.now (subst (All IsPieceEntry) (one_there c.args.page.now.entries c.args.at c.in-Some.entry.now c.in-Some.ensures) all))

pub returns-clause-yes : goal.returns-clause-yes
returns-clause-yes c = λ yes.
    subst (All IsPieceEntry) (sym (one_there c.args.page.now.entries c.args.at c.in-Some.entry.now c.in-Some.ensures))
    (all_one IsPieceEntry c.in-Some.entry.now (record { piece = c.in-Some-piece_of.piece; is = c.in-Some-piece_of.ensures.some }))

pub returns-clause-pieces : goal.returns-clause-pieces
returns-clause-pieces c = λ yes.
    c.in_ok-push.ensures.items
    ∙ ap (λ (p : Piece). c.args.pieces.now.items ++ p ∷ []) (sym (tells c.in-Some-piece_of.piece c.in-Some.entry.now c.in-Some-piece_of.ensures.some))
    ∙ ap (λ (l : List Entry). c.args.pieces.now.items ++ map piece_in l) (sym (one_there c.args.page.now.entries c.args.at c.in-Some.entry.now c.in-Some.ensures))
