use Rattle.bx_truth.proofs.PieceRewritten.{piece_rewritten}
use Rattle.bx_truth.proofs.files.a_piece_is_rewritten.Goals as goal

pub returns : goal.returns
returns c = λ areas truth tree handle file bytes bytes_now index names block few is there body_is index_fits names_fits value_is kind header.
    piece_rewritten areas few truth tree handle file bytes bytes_now index names block is there body_is index_fits names_fits value_is kind header
