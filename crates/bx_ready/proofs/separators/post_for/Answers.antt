use Rattle.std.proofs.Common.{List, Option, sym, subst}
use Rattle.std.specs.Prelude.{Err}
use Rattle.bx_blink.specs.Hints.{Under}
use Rattle.bx_posts.specs.Posts.{NeedsForPost, PostsAt, PostsIn, PostsPage}
use Rattle.bx_records.specs.Drafts.{Changed}
use Rattle.bx_chunks.specs.Taking.{TakesSlots}
use Rattle.bx_ready.proofs.Lacks.{no_separator}
use Rattle.bx_ready.proofs.Line.{all_posted, not_lost, short}
use Rattle.bx_ready.proofs.Post.{post_ends, post_error, post_fair}
use Rattle.bx_ready.proofs.separators.post_for.Goals as goal

pub returns-in-Lost-clause-map : goal.returns-in-Lost-clause-map
returns-in-Lost-clause-map g c = λ truth tree u. not_lost c.args.at.now.areas (g.V.View.held c.args.view.now) (g.V.View.hints c.args.view.now) truth c.args.at.now.root tree c.args.at.now.key.now u c.in-Lost.ensures

pub returns-in-Arrives-clause-map : goal.returns-in-Arrives-clause-map
returns-in-Arrives-clause-map g c = λ truth tree u. all_posted c.args.at.now.areas (g.V.View.held c.args.view.now) (g.V.View.hints c.args.view.now) truth c.args.at.now.root tree c.args.at.now.key.now u c.in-Arrives.ensures

pub returns-in-Ok-clause-map : goal.returns-in-Ok-clause-map
returns-in-Ok-clause-map g c = λ truth tree u.
    let s = short c.args.at.now.areas (g.V.View.held c.args.view.now) (g.V.View.hints c.args.view.now) truth c.args.at.now.root tree c.args.at.now.key.now u c.in-Short.page c.in-Short.ensures in
    record {
      node = s.node;
      lacks = s.lacks;
      posted = c.in-Ok.field-0;
      posts = subst (λ (d : List Changed). PostsPage c.args.at.now.areas (g.V.View.held c.args.view.now) (g.V.View.hints c.args.view.now) truth d c.post.new.draft c.args.at.now.root tree s.node c.in-Ok.field-0) c.new-draft.ensures
          (c.in-Ok.ensures.map truth tree s.node (subst (λ (d : List Changed). Under c.args.at.now.areas (g.V.View.held c.args.view.now) (g.V.View.hints c.args.view.now) truth d c.args.at.now.root tree) (sym c.new-draft.ensures) u)
          (record { level = s.level; within = s.within; there = s.there }) s.handle_is);
    }

pub returns-in-Err-clause-map : goal.returns-in-Err-clause-map
returns-in-Err-clause-map g c = λ truth tree u.
    let s = short c.args.at.now.areas (g.V.View.held c.args.view.now) (g.V.View.hints c.args.view.now) truth c.args.at.now.root tree c.args.at.now.key.now u c.in-Short.page c.in-Short.ensures in
    post_error c.args.at.now.areas (g.V.View.held c.args.view.now) (g.V.View.hints c.args.view.now) truth c.args.at.now.root tree c.args.at.now.key.now u c.args.at.now.near c.in-Short.page c.post.new.draft s.node c.in-Err.error (no_separator c.args.at.now.areas (g.V.View.held c.args.view.now) (g.V.View.hints c.args.view.now) truth c.args.at.now.root tree c.args.at.now.key.now u s.node s.lacks)
    (subst (λ (d : List Changed). PostsAt (g.V.View.held c.args.view.now) (g.V.View.hints c.args.view.now) d d c.args.at.now.root c.in-Short.page c.args.at.now.near c.args.at.now.areas (Err c.in-Err.error)) c.new-draft.ensures c.in-Err.ensures.at)
    (subst (λ (d : List Changed). PostsIn c.args.at.now.areas (g.V.View.held c.args.view.now) (g.V.View.hints c.args.view.now) truth d c.post.new.draft c.args.at.now.root tree s.node (Err c.in-Err.error)) c.new-draft.ensures
    (c.in-Err.ensures.map truth tree s.node (subst (λ (d : List Changed). Under c.args.at.now.areas (g.V.View.held c.args.view.now) (g.V.View.hints c.args.view.now) truth d c.args.at.now.root tree) (sym c.new-draft.ensures) u)
    (record { level = s.level; within = s.within; there = s.there }) s.handle_is))

pub returns-in-Err-clause-fair : goal.returns-in-Err-clause-fair
returns-in-Err-clause-fair g c =
    post_fair c.args.at.now.near c.args.at.now.areas (g.V.View.held c.args.view.now) (g.V.View.hints c.args.view.now) c.args.at.now.root c.args.at.now.key.now (Option (List Changed)) c.in-Short.page c.in-Err.error c.in-Short.ensures
    (subst (λ (d : List Changed). NeedsForPost (g.V.View.held c.args.view.now) (g.V.View.hints c.args.view.now) d c.args.at.now.root c.in-Short.page c.args.at.now.near c.args.at.now.areas (Err c.in-Err.error)) c.new-draft.ensures c.in-Err.ensures.fair)

pub returns-in-Err-clause-full : goal.returns-in-Err-clause-full
returns-in-Err-clause-full g c =
    post_ends c.args.at.now.near c.args.at.now.areas (g.V.View.held c.args.view.now) (g.V.View.hints c.args.view.now) c.args.at.now.root c.in-Short.page (Option (List Changed)) c.in-Err.error
    (subst (λ (d : List Changed). NeedsForPost (g.V.View.held c.args.view.now) (g.V.View.hints c.args.view.now) d c.args.at.now.root c.in-Short.page c.args.at.now.near c.args.at.now.areas (Err c.in-Err.error)) c.new-draft.ensures c.in-Err.ensures.fair)

pub returns-in-Ok-clause-taken : goal.returns-in-Ok-clause-taken
returns-in-Ok-clause-taken g c = subst (λ (d : List Changed). TakesSlots (g.V.View.held c.args.view.now) c.args.at.now.near c.args.at.now.areas d c.post.new.draft) c.new-draft.ensures c.in-Ok.ensures.taken
