use Rattle.bx_truth.proofs.Freed.{freed_keeps}
use Rattle.bx_truth.proofs.Made.{keeps_and}
use Rattle.bx_truth.proofs.Taking.{taken_keeps}
use Rattle.bx_truth.proofs.chunks.slots_are_kept.Goals as goal

pub returns-clause-taken : goal.returns-clause-taken
returns-clause-taken c = λ areas truth now block slots few is takes chunked. taken_keeps areas few truth now block slots is takes chunked

pub returns-clause-freed : goal.returns-clause-freed
returns-clause-freed c = λ areas truth now block slots few is frees chunked. freed_keeps areas few truth now block slots is frees chunked

pub returns-clause-steps : goal.returns-clause-steps
returns-clause-steps c = keeps_and
