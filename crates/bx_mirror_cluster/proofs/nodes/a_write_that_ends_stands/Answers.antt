use Rattle.bx_mirror_cluster.proofs.Ended.{write_stands}
use Rattle.bx_mirror_cluster.proofs.nodes.a_write_that_ends_stands.Goals as goal

pub returns : goal.returns
returns c = λ parts x past node known input new before after keeps may few arrives takes write is_out none own lives device sector content brings.
    write_stands parts x past node known input new before after keeps may few arrives takes write is_out none own lives device sector content brings
