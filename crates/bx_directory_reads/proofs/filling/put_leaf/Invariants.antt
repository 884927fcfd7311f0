use Rattle.std.proofs.Common.{◌≡◌, ◌+◌, ◌≤◌, List, length, map}
use Rattle.bx_dirs.specs.Entries.{DoFit, by_number}
use Rattle.bx_tree_files.specs.declared.file.Name.{Name}
use Rattle.bx_directory_reads.proofs.Putting.{Going}
use Rattle.bx_directory_reads.proofs.filling.put_leaf.Given as goal

abbrev pub invariant-loop-entry : goal.invariant-loop-entry
invariant-loop-entry l = record {
  list : (names : List Name) → DoFit names → l.initial.entries ≡ map by_number names → Going l.initial.page l.page names l.entries;
  room : l.page.room + length l.initial.entries ≤ l.initial.page.room + length l.entries;
}

abbrev pub decreases-loop-entry : goal.decreases-loop-entry
decreases-loop-entry l = length l.entries
