use Rattle.bx_mirror_server.proofs.Shifting.{copies_whole, proposes_step}
use Rattle.bx_mirror_server.proofs.laws.a_proposal_is_a_step.Goals as goal

pub returns-clause-ticks : goal.returns-clause-ticks
returns-clause-ticks c = proposes_step

pub returns-clause-copies : goal.returns-clause-copies
returns-clause-copies c = copies_whole
