use Rattle.bx_truth.proofs.Freed.{chunk_freed, chunked_freed}
use Rattle.bx_truth.proofs.chunks.a_slot_is_freed.Goals as goal

pub returns-clause-chunked : goal.returns-clause-chunked
returns-clause-chunked c = λ areas truth now block slots few is frees chunked. chunked_freed areas few truth now block slots is frees chunked

pub returns-clause-chunks : goal.returns-clause-chunks
returns-clause-chunks c = λ areas truth now block slots few is frees chunked. chunk_freed areas few truth now block slots is frees chunked
