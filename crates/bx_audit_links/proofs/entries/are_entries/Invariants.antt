use Rattle.std.specs.Prelude.{Contains}
use Rattle.bx_model.specs.FileTrees.{IsEntryOf}
use Rattle.bx_tree_files.specs.declared.file.Name.{Name}
use Rattle.bx_audit_links.proofs.entries.are_entries.Given as goal

-- all are right once those are that are left, and those that are left are of them
abbrev pub invariant-loop-entry : goal.invariant-loop-entry
invariant-loop-entry l = record {
  all : ((entry : Name) → Contains l.entry-iterator entry → IsEntryOf l.files l.directory l.next entry) → (entry : Name) → Contains l.names entry → IsEntryOf l.files l.directory l.next entry;
  rest : (entry : Name) → Contains l.entry-iterator entry → Contains l.names entry;
}
