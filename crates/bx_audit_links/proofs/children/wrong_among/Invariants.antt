use Rattle.std.specs.Prelude.{Contains}
use Rattle.bx_audit_links.specs.Children.{HaveChildren}
use Rattle.bx_tree_files.specs.declared.file.Name.{Name}
use Rattle.bx_audit_links.proofs.children.wrong_among.Given as goal

-- all name children once those that are left do, and those that are left are of them
abbrev pub invariant-loop-entry : goal.invariant-loop-entry
invariant-loop-entry l = record {
  all : HaveChildren l.files l.directory l.entry-iterator → HaveChildren l.files l.directory l.names;
  rest : (entry : Name) → Contains l.entry-iterator entry → Contains l.names entry;
}
