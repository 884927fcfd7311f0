use Rattle.bx_mirror_cluster.proofs.laws.what_is_out_is_its_own.Goals as goal

pub returns : goal.returns
returns c = λ parts x past node write keeps is_out. keeps.holding node write is_out
