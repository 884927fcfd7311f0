use Rattle.std.proofs.Common.{◌≡◌, ℕ, take}
use Rattle.std.specs.Prelude.{All}
use Rattle.bx_truth.specs.PageTrees.{Chunks, IsTree, entries_of, map_of}
use Rattle.bx_audit_pages.specs.Trees.{tree_of}
use Rattle.bx_audit_files.specs.Names.{IsPaired, names_in}
use Rattle.bx_audit_files.proofs.names.names_of.Given as goal

abbrev pub invariant-loop-leaf : goal.invariant-loop-leaf
invariant-loop-leaf l = record {
  names : l.names.items ≡ names_in (entries_of (take l.leaf-index l.leaves));
  paired : (chunks : Chunks) (root : ℕ) → IsTree chunks root (tree_of l.tree) → All (IsPaired (map_of (tree_of l.tree))) (entries_of (take l.leaf-index l.leaves));
}
