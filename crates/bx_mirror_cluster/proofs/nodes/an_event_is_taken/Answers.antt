use Rattle.bx_mirror_cluster.proofs.NodeEvents.{node_takes}
use Rattle.bx_mirror_cluster.proofs.nodes.an_event_is_taken.Goals as goal

pub returns : goal.returns
returns c = λ parts x past node known input new before after keeps may few arrives for_it takes. node_takes parts x past node known input new before after keeps may few arrives for_it takes
