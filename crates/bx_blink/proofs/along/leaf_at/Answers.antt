use Rattle.bx_truth.specs.Chunks.{chunks_of}
use Rattle.bx_truth.specs.bx_views.specs.Truths.{with_draft}
use Rattle.bx_blink.specs.Walks.{reads_with}
use Rattle.bx_blink.proofs.LeafFound.{leaf_found, leaf_fairly}
use Rattle.bx_blink.proofs.Under.{agrees}
use Rattle.bx_blink.proofs.along.leaf_at.Goals as goal

pub returns-clause-map : goal.returns-clause-map
returns-clause-map g c = λ areas truth tree u.
    leaf_found areas (reads_with (g.V.View.held c.args.view.now) (g.V.View.hints c.args.view.now) c.args.draft.now) (chunks_of areas (with_draft truth c.args.draft.now)) c.args.root tree c.args.key.now
    c.leaf_where.result (agrees areas (g.V.View.held c.args.view.now) (g.V.View.hints c.args.view.now) truth c.args.draft.now c.args.root tree u) c.leaf_where.ensures

pub returns-clause-fair : goal.returns-clause-fair
returns-clause-fair g c = leaf_fairly (reads_with (g.V.View.held c.args.view.now) (g.V.View.hints c.args.view.now) c.args.draft.now) c.args.root c.args.key.now c.leaf_where.result c.leaf_where.ensures
