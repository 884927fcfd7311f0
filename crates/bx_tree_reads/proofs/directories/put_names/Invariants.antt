use Rattle.std.proofs.Common.{◌≡◌}
use Rattle.std.specs.Map.{values_of}
use Rattle.bx_tree_files.specs.Entries.{above}
use Rattle.bx_call_parts.specs.Pages.{filled}
use Rattle.bx_tree_reads.proofs.directories.put_names.Given as goal

abbrev pub invariant-loop-entry : goal.invariant-loop-entry
invariant-loop-entry l = filled l.initial.page (above l.fn.cookie l.names) ≡ filled l.page (values_of l.entry-iterator)
