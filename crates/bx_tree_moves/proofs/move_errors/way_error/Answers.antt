use Rattle.std.proofs.Common.{◌≡◌, ℕ, suc, ◌+◌, ◌-◌, false, eqb, ◌∙◌, sym, ap, arith}
use Rattle.std.proofs.lemmas.Bool.Decides.{nat_tests}
use Rattle.bx_model.specs.Moves.{way_errors}
use Rattle.bx_model.proofs.Ways.{way_met, way_on, way_there}
use Rattle.bx_tree_moves.proofs.move_errors.way_error.Goals as goal

pub returns-then-at-handle : goal.returns-then-at-handle
returns-then-at-handle c =
    c.loop-moves.invariant
    ∙ ap (λ (at : ℕ). way_errors c.args.tree.now (512 - c.loop-moves._moves) at c.args.handle) c.if-at-handle.true
    ∙ way_met c.args.tree.now (512 - c.loop-moves._moves) c.args.handle

pub returns-then-at-tree : goal.returns-then-at-tree
returns-then-at-tree c =
    let apart : eqb c.args.tree.now.root c.args.handle ≡ false = grind (arith, nat_tests) in
    c.loop-moves.invariant
    ∙ ap (λ (at : ℕ). way_errors c.args.tree.now (512 - c.loop-moves._moves) at c.args.handle) c.if-at-tree.true
    ∙ way_there c.args.tree.now (512 - c.loop-moves._moves) c.args.handle apart

pub loop-moves-preserved : goal.loop-moves-preserved
loop-moves-preserved c =
    let apart : eqb c.loop-moves.at c.args.handle ≡ false = grind (arith, nat_tests) in
    let below : eqb c.loop-moves.at c.args.tree.now.root ≡ false = grind (arith, nat_tests) in
    let left : 512 - c.loop-moves._moves ≡ suc (512 - (c.loop-moves._moves + 1)) = omega arith in
    c.loop-moves.invariant
    ∙ ap (λ (moves : ℕ). way_errors c.args.tree.now moves c.loop-moves.at c.args.handle) left
    ∙ way_on c.args.tree.now (512 - (c.loop-moves._moves + 1)) c.loop-moves.at c.args.handle apart below
    ∙ ap (λ (at : ℕ). way_errors c.args.tree.now (512 - (c.loop-moves._moves + 1)) at c.args.handle) (sym c.parent_at-at.ensures)
