use Rattle.std.proofs.Common.{◌≡◌, ◌<◌, ◌≤◌, ℕ}
use Rattle.bx_tree_parts.specs.Pieces.{byte_at, AreWhole, IsHeld}
use Rattle.bx_tree_parts.proofs.pieces.Pieces.hold_all.Given as goal

abbrev pub invariant-loop-index : goal.invariant-loop-index
invariant-loop-index l = record {
  whole : AreWhole l.self;
  same : (place : ℕ) → byte_at l.self place ≡ byte_at l.fn.self place;
  has : (index : ℕ) → l.from ≤ index → index < l.index → IsHeld l.self index;
}
