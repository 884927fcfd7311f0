use Rattle.std.proofs.Common.{[]}
use Rattle.bx_blink.specs.Walks.{reads_with}
use Rattle.bx_blink.proofs.RunFound.{next_in}
use Rattle.bx_blink.proofs.RunPaths.{run_fair}
use Rattle.bx_blink.proofs.Under.{agrees}
use Rattle.bx_truth.specs.bx_views.specs.Truths.{with_draft}
use Rattle.bx_truth.specs.Chunks.{chunks_of}
use Rattle.bx_blink.proofs.searches.next.Goals as goal

pub returns-clause-map : goal.returns-clause-map
returns-clause-map g c = λ areas truth tree u.
    next_in areas (reads_with (g.V.View.held c.args.view.now) (g.V.View.hints c.args.view.now) []) (chunks_of areas (with_draft truth [])) c.args.root tree c.args.not_below.now c.run_on.result
    (agrees areas (g.V.View.held c.args.view.now) (g.V.View.hints c.args.view.now) truth [] c.args.root tree u) c.run_on.ensures

pub returns-clause-fair : goal.returns-clause-fair
returns-clause-fair g c = run_fair (reads_with (g.V.View.held c.args.view.now) (g.V.View.hints c.args.view.now) []) c.args.root c.args.not_below.now c.run_on.result c.run_on.ensures
