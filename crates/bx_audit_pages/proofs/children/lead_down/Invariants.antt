use Rattle.std.proofs.Common.{ℕ, ◌<◌, get_or}
use Rattle.bx_truth.specs.PageTrees.{Node, IsInterior}
use Rattle.bx_audit_pages.proofs.children.lead_down.Given as goal

abbrev pub invariant-loop-page : goal.invariant-loop-page
invariant-loop-page l = (k : ℕ) (d : Node) → k < l.page-index → IsInterior l.below (get_or l.above k d)
