use Rattle.std.proofs.Common.{◌+◌, length}
use Rattle.std.specs.Prelude.{◌-◌}
use Rattle.std.specs.BTreeSet.{btree_set_len}
use Rattle.bx_audit_links.proofs.Stand.{Stand}
use Rattle.bx_audit_links.proofs.reached.lost_in.Given as goal

abbrev pub invariant-loop-at : goal.invariant-loop-at
invariant-loop-at l = Stand l.files l.root l.reached.items l.unreached l.at

abbrev pub decreases-loop-at : goal.decreases-loop-at
decreases-loop-at l = btree_set_len l.unreached + length l.reached.items - l.at
