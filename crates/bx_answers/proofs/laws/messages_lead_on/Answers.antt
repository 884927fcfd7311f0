use Rattle.bx_answers.proofs.Leading.{leads_on}
use Rattle.bx_answers.proofs.laws.messages_lead_on.Goals as goal

pub returns-clause-known : goal.returns-clause-known
returns-clause-known c = λ held new message answer h. (leads_on held new message answer h).known

pub returns-clause-promise : goal.returns-clause-promise
returns-clause-promise c = λ held new message answer h. (leads_on held new message answer h).promise

pub returns-clause-index : goal.returns-clause-index
returns-clause-index c = λ held new message answer h. (leads_on held new message answer h).index
