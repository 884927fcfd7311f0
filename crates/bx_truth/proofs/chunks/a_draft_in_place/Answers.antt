use Rattle.bx_truth.proofs.InPlace.{chunk_laid, chunked_stays}
use Rattle.bx_truth.proofs.chunks.a_draft_in_place.Goals as goal

pub returns-clause-chunks : goal.returns-clause-chunks
returns-clause-chunks c = chunk_laid

pub returns-clause-chunked : goal.returns-clause-chunked
returns-clause-chunked c = chunked_stays
