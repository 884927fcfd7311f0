use Rattle.std.proofs.Common.{List, ◌++◌, take, sym, ap, subst, ◌∙◌}
use Rattle.std.specs.Prelude.{All, map}
use Rattle.std.proofs.lemmas.List.{map-append}
use Rattle.std.proofs.lemmas.List.Elements.{All-append}
use Rattle.bx_page.specs.Contents.{Contents}
use Rattle.bx_truth.specs.PageTrees.{Node, entries_of}
use Rattle.bx_audit_files.proofs.Steps.{leaf_more}
use Rattle.bx_audit_bodies.specs.Parts.{IsFirstLeaf}
use Rattle.bx_audit_bodies.specs.Pieces.{IsPieceEntry, piece_in}
use Rattle.bx_audit_bodies.specs.declared.pieces.Piece.{Piece}
use Rattle.bx_audit_bodies.proofs.FaultsOfParts.{first_leaf}
use Rattle.bx_audit_bodies.proofs.pieces.pieces_of.Goals as goal

pub returns-then-not-branch-clause-torn : goal.returns-then-not-branch-clause-torn
returns-then-not-branch-clause-torn c =
    let leaf = c.leaf-item.result in
    rw c.torn_at.ensures (subst (λ (l : List Node). IsFirstLeaf l c.handle.result) c.leaves-leaves.ensures.leaves
    (first_leaf c.leaves-leaves.result.now c.loop-leaf.leaf-index leaf c.handle.result c.loop-leaf-test.true c.leaf-item.is c.loop-leaf.invariant.each
    (λ all. c.in_ok-put_pieces.ensures.no c.if-not-branch.true (subst (λ (p : Contents). All IsPieceEntry p.entries) (sym c.page.ensures) all)) c.handle.ensures))

pub loop-leaf-preserved : goal.loop-leaf-preserved
loop-leaf-preserved c =
    let leaves = c.leaves-leaves.result.now in
    let at = c.loop-leaf.leaf-index in
    let leaf = c.leaf-item.result in
    let more = leaf_more leaves at leaf c.loop-leaf-test.true c.leaf-item.is in
    record {
      pieces = c.in_ok-put_pieces.ensures.pieces c.if-not-branch.false
          ∙ ap (λ (l : List Piece). l ++ map piece_in c.page.result.now.entries) c.loop-leaf.invariant.pieces
          ∙ ap (λ (p : Contents). map piece_in (entries_of (take at leaves)) ++ map piece_in p.entries) c.page.ensures
          ∙ sym (map-append piece_in (entries_of (take at leaves)) leaf.page.entries)
          ∙ ap (map piece_in) (sym more);
      each = subst (All IsPieceEntry) (sym more)
          (All-append IsPieceEntry (entries_of (take at leaves)) leaf.page.entries c.loop-leaf.invariant.each
          (subst (λ (p : Contents). All IsPieceEntry p.entries) c.page.ensures (c.in_ok-put_pieces.ensures.yes c.if-not-branch.false)));
    }
