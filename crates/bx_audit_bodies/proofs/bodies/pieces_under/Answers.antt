use Rattle.std.proofs.Common.{ap, ◌∙◌, Err, subst}
use Rattle.std.specs.Prelude.{All}
use Rattle.std.proofs.lemmas.Result.{err_from_is_err_and}
use Rattle.bx_truth.proofs.OneTree.{one_map}
use Rattle.bx_audit_pages.proofs.Ends.{both_torn, if_torn}
use Rattle.bx_audit_pages.specs.Trees.{tree_of}
use Rattle.bx_audit_bodies.specs.Pieces.{IsPieceEntry}
use Rattle.bx_audit_bodies.specs.Parts.{Entry, Page}
use Rattle.bx_audit_bodies.proofs.FaultsOfParts.{leaf_led, not_all_pieces}
use Rattle.bx_audit_bodies.proofs.PartsLed.{pieces_led}
use Rattle.bx_audit_bodies.proofs.bodies.pieces_under.Goals as goal

pub returns-in_err-tree-clause-torn : goal.returns-in_err-tree-clause-torn
returns-in_err-tree-clause-torn g c = λ chunks shows.
    let p = err_from_is_err_and c.from_residual.result c.from_residual.ensures.1 in
    if_torn _ _ c.in_err-tree.field-0.0 c.from_residual.result (p.1 ∙ ap Err p.2) (λ at found wanted never tree is all. never tree is) (c.in_err-tree.ensures.torn chunks shows)

pub returns-in_err-pieces-clause-torn : goal.returns-in_err-pieces-clause-torn
returns-in_err-pieces-clause-torn g c = λ chunks shows.
    let p = err_from_is_err_and c.from_residual-in_err-pieces.result c.from_residual-in_err-pieces.ensures.1 in
    if_torn _ _ c.in_err-pieces.field-0.0 c.from_residual-in_err-pieces.result (p.1 ∙ ap Err p.2) (λ at found wanted first tree is all.
    not_all_pieces _ wanted first (subst (All IsPieceEntry) (one_map chunks c.args.root tree (tree_of c.in_ok-tree.tree) is (c.in_ok-tree.ensures.ok chunks shows)) all))
    c.in_err-pieces.ensures.torn

pub returns-clause-led : goal.returns-clause-led
returns-clause-led g c = λ chunks shows.
    pieces_led chunks c.args.root c.in_ok-tree.tree c.in_ok-pieces.pieces.items (c.in_ok-tree.ensures.ok chunks shows) (c.in_ok-tree.ensures.led chunks shows) c.in_ok-pieces.ensures.ok

pub returns-in_err-tree-clause-leads : goal.returns-in_err-tree-clause-leads
returns-in_err-tree-clause-leads g c = λ chunks shows.
    let p = err_from_is_err_and c.from_residual.result c.from_residual.ensures.1 in
    if_torn _ _ c.in_err-tree.field-0.0 c.from_residual.result (p.1 ∙ ap Err p.2) (λ at found wanted leads. leads) (c.in_err-tree.ensures.leads chunks shows)

pub returns-in_err-pieces-clause-leads : goal.returns-in_err-pieces-clause-leads
returns-in_err-pieces-clause-leads g c = λ chunks shows.
    let p = err_from_is_err_and c.from_residual-in_err-pieces.result c.from_residual-in_err-pieces.ensures.1 in
    if_torn _ _ c.in_err-pieces.field-0.0 c.from_residual-in_err-pieces.result (p.1 ∙ ap Err p.2)
    (λ at found wanted first. leaf_led _ wanted first chunks c.args.root (c.in_ok-tree.ensures.led chunks shows)) c.in_err-pieces.ensures.torn

pub returns-in_err-tree-clause-first : goal.returns-in_err-tree-clause-first
returns-in_err-tree-clause-first g c = λ chunks shows.
    let p = err_from_is_err_and c.from_residual.result c.from_residual.ensures.1 in
    if_torn _ _ c.in_err-tree.field-0.0 c.from_residual.result (p.1 ∙ ap Err p.2) (λ at found wanted all. Page all.0 all.1.0 all.1.1)
    (both_torn _ _ c.in_err-tree.field-0.0 (c.in_err-tree.ensures.torn chunks shows)
    (both_torn _ _ c.in_err-tree.field-0.0 (c.in_err-tree.ensures.leads chunks shows) (c.in_err-tree.ensures.wrong chunks shows)))

pub returns-in_err-pieces-clause-first : goal.returns-in_err-pieces-clause-first
returns-in_err-pieces-clause-first g c = λ chunks shows.
    let p = err_from_is_err_and c.from_residual-in_err-pieces.result c.from_residual-in_err-pieces.ensures.1 in
    if_torn _ _ c.in_err-pieces.field-0.0 c.from_residual-in_err-pieces.result (p.1 ∙ ap Err p.2)
    (λ at found wanted first. Entry (tree_of c.in_ok-tree.tree) (c.in_ok-tree.ensures.ok chunks shows) first) c.in_err-pieces.ensures.torn
