use Rattle.bx_volume.proofs.Steps.{body_written, gate_written}
use Rattle.bx_volume.proofs.logs.behind_the_run_nothing_matters.Goals as goal

pub returns-clause-bodies : goal.returns-clause-bodies
returns-clause-bodies c = λ held now devices areas rows logs truth slot body was less place behind only. body_written held now devices areas rows logs truth slot body less place behind only was

pub returns-clause-gates : goal.returns-clause-gates
returns-clause-gates c = λ held now devices areas rows logs truth slot gate was less place behind only. gate_written held now devices areas rows logs truth slot gate less place behind only was
