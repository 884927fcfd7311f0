use Rattle.std.proofs.Common.{◌≡◌, length}
use Rattle.bx_page.specs.Contents.{value_of}
use Rattle.bx_page_bytes.proofs.page.PageBytes.get.Given as goal

abbrev pub invariant-loop-entry : goal.invariant-loop-entry
invariant-loop-entry l = value_of l.entries l.key ≡ value_of l.self.entries l.key

abbrev pub decreases-loop-entry : goal.decreases-loop-entry
decreases-loop-entry l = length l.entries
