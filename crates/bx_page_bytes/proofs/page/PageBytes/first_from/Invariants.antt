use Rattle.std.proofs.Common.{◌≡◌, length}
use Rattle.bx_page.specs.Contents.{first, from}
use Rattle.bx_page_bytes.proofs.page.PageBytes.first_from.Given as goal

abbrev pub invariant-loop-entry : goal.invariant-loop-entry
invariant-loop-entry l = first (from l.entries l.key) ≡ first (from l.self.entries l.key)

abbrev pub decreases-loop-entry : goal.decreases-loop-entry
decreases-loop-entry l = length l.entries
