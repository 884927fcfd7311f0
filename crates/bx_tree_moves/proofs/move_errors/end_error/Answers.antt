use Rattle.std.proofs.Common.{◌≡◌, ℕ, false, eqb, ◌∙◌, ap, arith}
use Rattle.std.proofs.lemmas.Bool.Decides.{nat_tests}
use Rattle.bx_model.specs.Moves.{way_errors}
use Rattle.bx_model.proofs.Ways.{way_long, way_met, way_there}
use Rattle.bx_tree_moves.proofs.move_errors.end_error.Goals as goal

pub returns-then-directory-handle : goal.returns-then-directory-handle
returns-then-directory-handle c =
    ap (λ (at : ℕ). way_errors c.args.tree.now 0 at c.args.handle) c.if-directory-handle.true ∙ way_met c.args.tree.now 0 c.args.handle

pub returns-then-directory-tree : goal.returns-then-directory-tree
returns-then-directory-tree c =
    let apart : eqb c.args.tree.now.root c.args.handle ≡ false = grind (arith, nat_tests) in
    ap (λ (at : ℕ). way_errors c.args.tree.now 0 at c.args.handle) c.if-directory-tree.true ∙ way_there c.args.tree.now 0 c.args.handle apart

pub returns-else-directory-tree : goal.returns-else-directory-tree
returns-else-directory-tree c =
    let apart : eqb c.args.directory c.args.handle ≡ false = grind (arith, nat_tests) in
    let below : eqb c.args.directory c.args.tree.now.root ≡ false = grind (arith, nat_tests) in
    way_long c.args.tree.now c.args.directory c.args.handle apart below
