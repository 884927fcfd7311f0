use Rattle.std.proofs.Common.{◌≡◌, ◌<◌, ℕ, nat_cmp}
use Rattle.std.specs.BTreeMap.{btree_map_len, get}
use Rattle.bx_tree_parts.proofs.pieces.Pieces.take_from.Given as goal

abbrev pub invariant-loop-index : goal.invariant-loop-index
invariant-loop-index l = (index : ℕ) → index < l.end → get nat_cmp l.self.by_index index ≡ get nat_cmp l.fn.self.by_index index

abbrev pub decreases-loop-index : goal.decreases-loop-index
decreases-loop-index l = btree_map_len l.self.by_index
