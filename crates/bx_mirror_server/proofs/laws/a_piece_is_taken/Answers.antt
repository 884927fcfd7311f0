use Rattle.bx_mirror_server.proofs.Taking.{piece, piece_partly}
use Rattle.bx_mirror_server.proofs.laws.a_piece_is_taken.Goals as goal

pub returns : goal.returns
returns c = record {
  taken = λ m new from by c old now here puts. piece m new from by c old now here puts;
  partly = λ m by c old now here keeps. piece_partly m by c old now here keeps;
}
