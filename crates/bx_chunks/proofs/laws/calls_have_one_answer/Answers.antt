use Rattle.bx_chunks.proofs.OneAllocation.{one_allocation}
use Rattle.bx_chunks.proofs.OneCount.{one_count}
use Rattle.bx_chunks.proofs.OneFreeing.{one_freeing}
use Rattle.bx_chunks.proofs.OneRead.{one_read}
use Rattle.bx_chunks.proofs.laws.calls_have_one_answer.Goals as goal

pub returns-clause-read : goal.returns-clause-read
returns-clause-read c = one_read

pub returns-clause-allocate : goal.returns-clause-allocate
returns-clause-allocate c = λ held old new now near areas a b x y is also. one_allocation held old near areas new now a b x y is also

pub returns-clause-free : goal.returns-clause-free
returns-clause-free c = λ held old new now handle a b x y is also. one_freeing held old handle new now a b x y is also

pub returns-clause-count : goal.returns-clause-count
returns-clause-count c = one_count
