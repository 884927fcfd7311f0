use Rattle.std.proofs.Common.{List, ◌++◌, take, drop, sym, ap, subst, ◌∙◌}
use Rattle.std.specs.Prelude.{All, map}
use Rattle.std.proofs.lemmas.List.{append_assoc, map-append}
use Rattle.std.proofs.lemmas.List.Elements.{All-append}
use Rattle.bx_page.specs.declared.entry.Entry.{Entry}
use Rattle.bx_audit_files.proofs.Steps.{one_more, all_there}
use Rattle.bx_audit_bodies.specs.Pieces.{IsPieceEntry, piece_in}
use Rattle.bx_audit_bodies.specs.declared.pieces.Piece.{Piece}
use Rattle.bx_audit_bodies.proofs.pieces.put_pieces.Goals as goal

pub returns-then-not-branch-clause-no : goal.returns-then-not-branch-clause-no
returns-then-not-branch-clause-no c = λ no all. c.in_ok-put_at.ensures.no c.if-not-branch.true (all_there IsPieceEntry c.args.page.now.entries c.loop-at.at all)

pub loop-at-preserved : goal.loop-at-preserved
loop-at-preserved c =
    let entries = c.args.page.now.entries in
    let at = c.loop-at.at in
    let before = c.args.pieces.now.items in
    record {
      pieces = c.in_ok-put_at.ensures.pieces c.if-not-branch.false
          ∙ ap (λ (l : List Piece). l ++ map piece_in (take 1 (drop at entries))) c.loop-at.invariant.pieces
          ∙ append_assoc before (map piece_in (take at entries)) (map piece_in (take 1 (drop at entries)))
          ∙ ap (λ (l : List Piece). before ++ l) (sym (map-append piece_in (take at entries) (take 1 (drop at entries))))
          ∙ ap (λ (l : List Entry). before ++ map piece_in l) (sym (one_more entries at));
      each = subst (All IsPieceEntry) (sym (one_more entries at))
          (All-append IsPieceEntry (take at entries) (take 1 (drop at entries)) c.loop-at.invariant.each (c.in_ok-put_at.ensures.yes c.if-not-branch.false));
    }
