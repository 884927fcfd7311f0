use Rattle.bx_paxos.proofs.Events.{hears, ticks_at}
use Rattle.bx_paxos.proofs.laws.a_proposer_takes.Goals as goal

pub returns-clause-hears : goal.returns-clause-hears
returns-clause-hears c = λ v x past at others letter message course courses move fits number comes does turned.
    hears v x past at others letter message course courses move fits number comes.sent comes.spells does turned

pub returns-clause-ticks : goal.returns-clause-ticks
returns-clause-ticks c = ticks_at
