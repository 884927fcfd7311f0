use Rattle.bx_calls.specs.Laws.{blank_reads}
use Rattle.bx_calls.proofs.zero.write_zeros.Goals as goal

pub returns-clause-zero : goal.returns-clause-zero
returns-clause-zero g c = λ tells. blank_reads _ _ _ _ c.requires.blank (c.in_ok-write_some.ensures.written tells)
