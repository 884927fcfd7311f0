use Rattle.bx_chunks.proofs.Allocates.{allocates_in}
use Rattle.bx_chunks.proofs.FairNeeds.{fair}
use Rattle.bx_chunks.proofs.HeldDrafts.{allocates_held}
use Rattle.bx_chunks.proofs.allocating.allocate.Goals as goal

pub returns-clause-map : goal.returns-clause-map
returns-clause-map g c = λ truth few same is.
    allocates_in c.args.areas c.args.near (g.V.View.held c.args.view.now) truth c.args.draft.now c.allocate_seen.new.draft few same is c.allocate_seen.result c.allocate_seen.ensures.at

pub returns-clause-fair : goal.returns-clause-fair
returns-clause-fair g c =
    fair c.args.areas c.args.near (g.V.View.held c.args.view.now) c.args.draft.now c.allocate_seen.new.draft (λ at block is. g.met.V.View.shares c.args.view.now at block is) c.allocate_seen.result c.allocate_seen.ensures.at

pub returns-clause-writes : goal.returns-clause-writes
returns-clause-writes g c = λ is. allocates_held (g.V.View.held c.args.view.now) c.args.draft.now c.allocate_seen.new.draft is c.args.near c.args.areas c.allocate_seen.result c.allocate_seen.ensures.at c.allocate_seen.ensures.err
