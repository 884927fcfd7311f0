use Rattle.bx_mirror_cluster.proofs.WriteUntold.{untold_keeps, untold_reads, untold_settles, untold_stands}
use Rattle.bx_mirror_cluster.proofs.laws.a_write_has_no_number.Goals as goal

pub returns : goal.returns
returns c = record {
  keeps = λ parts x past node session until runs keeps may. untold_keeps parts x past keeps node session until runs may.none may.runs_are may.not_left may.own may.fits;
  settles = λ parts x past node session until runs device sector content keeps may settled. untold_settles parts x past keeps node session until runs may.none may.runs_are may.not_left may.own may.fits device sector content settled;
  stands = λ parts x past node session until runs device sector content index keeps may stands. untold_stands parts x past keeps node session until runs may.none may.runs_are may.not_left may.own may.fits device sector content index stands;
  reads = λ parts x past node session until runs reader read sector content keeps may will. untold_reads parts x past keeps node session until runs may.none may.runs_are may.not_left may.own may.fits reader read sector content will;
}
