use Rattle.std.proofs.Common.{◌≡◌, ℕ, ◌++◌, take}
use Rattle.std.specs.Prelude.{All}
use Rattle.bx_truth.specs.PageTrees.{Chunks, IsTree, map_of}
use Rattle.bx_audit_pages.specs.Trees.{tree_of}
use Rattle.bx_audit_files.specs.Names.{IsPaired, names_in}
use Rattle.bx_audit_files.proofs.names.put_names.Given as goal

abbrev pub invariant-loop-at : goal.invariant-loop-at
invariant-loop-at l = record {
  names : l.names.items ≡ l.fn.names.items ++ names_in (take l.at l.page.entries);
  paired : (chunks : Chunks) (root : ℕ) → IsTree chunks root (tree_of l.tree) → All (IsPaired (map_of (tree_of l.tree))) (take l.at l.page.entries);
}
