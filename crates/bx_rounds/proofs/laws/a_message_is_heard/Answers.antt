use Rattle.bx_rounds.proofs.Agreeing.{heard, ticks}
use Rattle.bx_rounds.proofs.laws.a_message_is_heard.Goals as goal

pub returns-clause-hears : goal.returns-clause-hears
returns-clause-hears c = λ h cells old new me course to from message move stands is may does turns. heard h cells old new me stands to turns course from message move is may does

pub returns-clause-ticks : goal.returns-clause-ticks
returns-clause-ticks c = λ h cells old new me course to move stands is does turns. ticks h cells old new me stands to turns course move is does
