use Rattle.bx_moving.proofs.Steps.{end_by}
use Rattle.bx_moving.proofs.moves.end.Goals as goal

pub returns-in-Some-clause-step : goal.returns-in-Some-clause-step
returns-in-Some-clause-step g c = λ truth tree r is.
    end_by c.args.areas truth c.args.draft tree c.args.now c.lose.result c.args.replaced c.in-Some.other c.in-Some.is is (λ d. c.lose.ensures.step truth tree d.file r d.there d.empty d.not_root)
