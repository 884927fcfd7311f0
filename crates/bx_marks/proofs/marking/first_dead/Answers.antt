use Rattle.bx_chunks.proofs.Dead.{finds_dead}
use Rattle.bx_marks.proofs.marking.first_dead.Goals as goal

pub returns-clause-map : goal.returns-clause-map
returns-clause-map g c = λ areas truth within same is. finds_dead areas (g.V.View.held c.args.view.now) truth c.args.area within same is c.first_dead_held.result c.first_dead_held.ensures
