use Rattle.std.proofs.Common.{length}
use Rattle.bx_page_bytes.proofs.Cuts.{Left}
use Rattle.bx_page_bytes.proofs.writing.cuts.Given as goal

-- what is gone through is below the key
abbrev pub invariant-loop-entry : goal.invariant-loop-entry
invariant-loop-entry l = Left l.fn.entries l.entries l.key l.before

abbrev pub decreases-loop-entry : goal.decreases-loop-entry
decreases-loop-entry l = length l.entries
