use Rattle.bx_redo.specs.Steps.{AreBlocksOf}
use Rattle.bx_tests_bench.proofs.drafts.draft_of.Given as goal

abbrev pub invariant-loop-at : goal.invariant-loop-at
invariant-loop-at l = AreBlocksOf 64 l.draft
