use Rattle.std.proofs.Common.{List, []}
use Rattle.bx_dirs.specs.Entries.{HasEntries}
use Rattle.bx_tree_files.specs.declared.file.Name.{Name}
use Rattle.bx_tree_files.specs.Entries.{above}
use Rattle.bx_views.specs.Truths.{Truth}
use Rattle.bx_directory_reads.specs.Listings.{IsReached}
use Rattle.bx_directory_reads.proofs.Along.{Left}
use Rattle.bx_directory_reads.proofs.entries.put_entries.Given as goal

abbrev pub invariant-leaves : goal.invariant-leaves
invariant-leaves g l = record {
  done : (truth : Truth) (names : List Name) (has : HasEntries l.areas (g.V.View.held l.view) (g.V.View.hints l.view) truth [] l.root names) → Left l.root has.tree (above l.fn.cookie names) l.initial.page l.page l.handle l.key;
  reached : IsReached (g.V.View.held l.view) (g.V.View.hints l.view) l.root l.fn.cookie l.handle l.key;
}

abbrev pub decreases-leaves : goal.decreases-leaves
decreases-leaves g l = l.page.room
