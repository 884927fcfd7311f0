use Rattle.std.proofs.Common.{◌+◌, ◌-◌, ◌/◌, ◌<◌, ◌≤◌, ℕ, length, take}
use Rattle.bx_tree_parts.specs.Bytes.{IsPut}
use Rattle.bx_tree_parts.specs.Pieces.{byte_at, AreWhole, IsHeld}
use Rattle.bx_tree_parts.proofs.pieces.Pieces.put_all.Given as goal

abbrev pub invariant-loop-done : goal.invariant-loop-done
invariant-loop-done l = record {
  most : l.done ≤ length l.bytes;
  whole : AreWhole l.self;
  held : (place : ℕ) → l.start ≤ place → place < l.start + length l.bytes → IsHeld l.self (place / 4096);
  put : IsPut (byte_at l.fn.self) (byte_at l.self) l.start (take l.done l.bytes);
}

abbrev pub decreases-loop-done : goal.decreases-loop-done
decreases-loop-done l = length l.bytes - l.done
