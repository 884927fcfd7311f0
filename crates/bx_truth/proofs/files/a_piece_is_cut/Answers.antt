use Rattle.bx_truth.proofs.PieceCut.{piece_cut}
use Rattle.bx_truth.proofs.files.a_piece_is_cut.Goals as goal

pub returns : goal.returns
returns c = piece_cut
