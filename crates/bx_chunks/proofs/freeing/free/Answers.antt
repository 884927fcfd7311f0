use Rattle.bx_chunks.proofs.Removed.{frees_in}
use Rattle.bx_chunks.proofs.HeldDrafts.{frees_held}
use Rattle.bx_chunks.proofs.freeing.free.Goals as goal

pub returns-clause-map : goal.returns-clause-map
returns-clause-map g c = λ areas truth few within same is.
    frees_in areas few (g.V.View.held c.args.view.now) truth c.args.draft.now c.args.handle within same is c.free_seen.new.draft c.free_seen.result c.free_seen.ensures.at

pub returns-clause-writes : goal.returns-clause-writes
returns-clause-writes g c = λ is. frees_held (g.V.View.held c.args.view.now) c.args.draft.now c.free_seen.new.draft is c.args.handle c.free_seen.result c.free_seen.ensures.at c.free_seen.ensures.err
