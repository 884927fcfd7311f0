use Rattle.std.proofs.Common.{◌≡◌, ◌-◌}
use Rattle.bx_model.specs.Moves.{way_errors}
use Rattle.bx_tree_moves.proofs.move_errors.way_error.Given as goal

abbrev pub invariant-loop-moves : goal.invariant-loop-moves
invariant-loop-moves l = way_errors l.tree 512 l.directory l.handle ≡ way_errors l.tree (512 - l._moves) l.at l.handle
