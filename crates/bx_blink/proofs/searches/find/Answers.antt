use Rattle.std.proofs.Common.{[]}
use Rattle.bx_base.specs.declared.names.Mode.TheVariants.{Shared}
use Rattle.bx_blink.specs.Walks.{reads_with}
use Rattle.bx_blink.proofs.Found.{finds, fair}
use Rattle.bx_blink.proofs.Under.{agrees}
use Rattle.bx_truth.specs.bx_views.specs.Truths.{with_draft}
use Rattle.bx_truth.specs.Chunks.{chunks_of}
use Rattle.bx_blink.proofs.searches.find.Goals as goal

pub returns-clause-map : goal.returns-clause-map
returns-clause-map g c = λ areas truth tree u.
    finds areas (reads_with (g.V.View.held c.args.view.now) (g.V.View.hints c.args.view.now) []) (chunks_of areas (with_draft truth [])) c.args.root tree Shared c.args.key.now c.search.result
    (agrees areas (g.V.View.held c.args.view.now) (g.V.View.hints c.args.view.now) truth [] c.args.root tree u) c.search.ensures

pub returns-clause-fair : goal.returns-clause-fair
returns-clause-fair g c = fair (g.V.View.held c.args.view.now) (g.V.View.hints c.args.view.now) c.args.root c.args.key.now c.search.result c.search.ensures
