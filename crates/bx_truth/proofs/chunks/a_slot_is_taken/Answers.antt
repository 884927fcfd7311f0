use Rattle.bx_truth.proofs.Taking.{chunk_taken, chunked_taken}
use Rattle.bx_truth.proofs.chunks.a_slot_is_taken.Goals as goal

pub returns-clause-chunked : goal.returns-clause-chunked
returns-clause-chunked c = λ areas truth now block slots few is takes. chunked_taken areas few truth now block slots is takes

pub returns-clause-chunks : goal.returns-clause-chunks
returns-clause-chunks c = λ areas truth now block slots few is takes. chunk_taken areas few truth now block slots is takes
