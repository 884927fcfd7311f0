use Rattle.bx_truth.proofs.PieceCut.{dead_piece_cut}
use Rattle.bx_truth.proofs.dead_files.a_dead_piece_is_cut.Goals as goal

pub returns : goal.returns
returns c = dead_piece_cut
