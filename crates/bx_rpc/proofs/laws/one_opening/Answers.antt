use Rattle.bx_rpc.proofs.Openings.{opens_once}
use Rattle.bx_rpc.proofs.Verdicts.{verdict_once}
use Rattle.bx_rpc.proofs.laws.one_opening.Goals as goal

pub returns-clause-verdicts : goal.returns-clause-verdicts
returns-clause-verdicts c = verdict_once

pub returns-clause-openings : goal.returns-clause-openings
returns-clause-openings c = opens_once
