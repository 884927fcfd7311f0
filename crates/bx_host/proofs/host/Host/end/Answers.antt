use Rattle.std.proofs.Common.{List, ap, filter, ◌∙◌}
use Rattle.bx_post.specs.Posts.{Posted, is_waiting}
use Rattle.bx_world_events.specs.Refusals.{Seen}
use Rattle.bx_host.proofs.Tidying.{kept}
use Rattle.bx_host.proofs.host.Host.end.Goals as goal

pub returns-clause-shows : goal.returns-clause-shows
returns-clause-shows g c =
    let old = g.C.Shows.seen c.args.self.now.cluster in
    c.forget.ensures.shows ∙ ap (λ (s : Seen). record s { post = filter is_waiting s.post }) c.drop_lost.ensures.shows ∙ ap (λ (p : List Posted). record old { post = p }) (kept old old.post)
