use Rattle.std.proofs.Common.{◌≡◌, ◌-◌, ◌≤◌}
use Rattle.bx_tree_parts.specs.Bytes.{bytes_from}
use Rattle.bx_tree_parts.specs.Pieces.{byte_at}
use Rattle.bx_tree_parts.proofs.pieces.Pieces.copy.Given as goal

abbrev pub invariant-loop-done : goal.invariant-loop-done
invariant-loop-done l = record {
  most : l.done ≤ l.len;
  bytes : l.bytes.items ≡ bytes_from (byte_at l.self) l.start l.done;
}

abbrev pub decreases-loop-done : goal.decreases-loop-done
decreases-loop-done l = l.len - l.done
