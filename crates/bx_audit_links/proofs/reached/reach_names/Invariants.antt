use Rattle.std.proofs.Common.{◌≡◌, ◌+◌, ◌++◌, List, length}
use Rattle.std.specs.BTreeSet.{btree_set_len}
use Rattle.bx_audit_links.specs.Reached.{IsNamed, Reaches}
use Rattle.bx_tree_files.specs.declared.file.Name.{Name}
use Rattle.bx_audit_links.proofs.reached.reach_names.Given as goal

abbrev pub invariant-loop-entry : goal.invariant-loop-entry
invariant-loop-entry l = record {
  done : List Name;
  parts : l.fn.names ≡ done ++ l.entry-iterator;
  reaches : Reaches (IsNamed done) l.initial.unreached l.initial.reached.items l.unreached l.reached.items;
  total : btree_set_len l.unreached + length l.reached.items ≡ btree_set_len l.initial.unreached + length l.initial.reached.items;
}
