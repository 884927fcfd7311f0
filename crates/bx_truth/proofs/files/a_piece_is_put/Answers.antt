use Rattle.bx_truth.proofs.Pieces.{piece_put}
use Rattle.bx_truth.proofs.files.a_piece_is_put.Goals as goal

pub returns : goal.returns
returns c = piece_put
