use Rattle.bx_mirror_cluster.proofs.Losing.{loses, reads_lost, settled_lost, stands_on_lost}
use Rattle.bx_mirror_cluster.proofs.laws.letters_are_lost.Goals as goal

pub returns : goal.returns
returns c = record {
  keeps = λ parts x past letters fewer keeps. loses parts x past letters fewer keeps;
  settles = λ parts x past letters device sector content fewer settled. settled_lost parts x past letters fewer device sector content settled;
  stands = λ parts x past letters device sector content index fewer stands. stands_on_lost parts x past letters fewer device sector content index stands;
  reads = λ parts x past letters reader read sector content fewer will. reads_lost parts x past letters fewer reader read sector content will;
}
