use Rattle.bx_chunks.proofs.Counted.{counts_in}
use Rattle.bx_chunks.proofs.counting.count_free.Goals as goal

pub returns-clause-map : goal.returns-clause-map
returns-clause-map g c = λ truth same is. counts_in (g.V.View.held c.args.view.now) c.args.areas truth same is c.count_held.result c.count_held.ensures
