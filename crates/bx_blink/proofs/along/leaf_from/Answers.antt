use Rattle.bx_base.specs.declared.names.Mode.TheVariants.{Shared}
use Rattle.bx_truth.specs.Chunks.{chunks_of}
use Rattle.bx_truth.specs.bx_views.specs.Truths.{with_draft}
use Rattle.bx_blink.specs.Walks.{most, reads_with, start}
use Rattle.bx_blink.proofs.RunLeaves.{leaf_has}
use Rattle.bx_blink.proofs.RunFound.{leaf_in}
use Rattle.bx_blink.proofs.RunPaths.{leaf_fair}
use Rattle.bx_blink.proofs.Under.{agrees}
use Rattle.bx_blink.proofs.along.leaf_from.Goals as goal

pub returns-clause-map : goal.returns-clause-map
returns-clause-map g c = λ areas truth root tree u b.
    leaf_in areas (reads_with (g.V.View.held c.args.view.now) (g.V.View.hints c.args.view.now) c.args.draft.now) (chunks_of areas (with_draft truth c.args.draft.now)) root tree c.args.not_below.now c.args.from
    (agrees areas (g.V.View.held c.args.view.now) (g.V.View.hints c.args.view.now) truth c.args.draft.now root tree u) b c.leaf_on.result c.leaf_on.ensures

pub returns-clause-some : goal.returns-clause-some
returns-clause-some g c =
    leaf_has (reads_with (g.V.View.held c.args.view.now) (g.V.View.hints c.args.view.now) c.args.draft.now) most c.args.not_below.now (start c.args.from Shared) c.leaf_on.result c.leaf_on.ensures

pub returns-clause-fair : goal.returns-clause-fair
returns-clause-fair g c =
    leaf_fair (reads_with (g.V.View.held c.args.view.now) (g.V.View.hints c.args.view.now) c.args.draft.now) c.args.from c.args.not_below.now c.leaf_on.result c.leaf_on.ensures
