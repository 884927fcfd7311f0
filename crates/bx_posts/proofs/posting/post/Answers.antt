use Rattle.bx_posts.proofs.PostFair.{post_fair, post_held}
use Rattle.bx_posts.proofs.PostTaken.{post_taken}
use Rattle.bx_posts.proofs.PostTree.{posts_in}
use Rattle.bx_posts.proofs.posting.post.Goals as goal

pub returns-clause-map : goal.returns-clause-map
returns-clause-map g c = λ truth tree node u i there.
    posts_in c.args.areas c.args.near (g.V.View.held c.args.view.now) (g.V.View.hints c.args.view.now) truth c.args.draft.now c.args.root tree u node i c.args.page there c.post_page.new.draft c.post_page.result c.post_page.ensures.at

pub returns-clause-fair : goal.returns-clause-fair
returns-clause-fair g c =
    post_fair c.args.areas c.args.near (g.V.View.held c.args.view.now) (g.V.View.hints c.args.view.now) c.args.draft.now c.args.root c.args.page (g.met.V.View.shares c.args.view.now) c.post_page.new.draft c.post_page.result c.post_page.ensures.at

pub returns-clause-held : goal.returns-clause-held
returns-clause-held g c = λ before.
    post_held c.args.areas c.args.near (g.V.View.held c.args.view.now) (g.V.View.hints c.args.view.now) c.args.draft.now c.post_page.new.draft c.args.root c.args.page before c.post_page.result c.post_page.ensures.at

pub returns-clause-taken : goal.returns-clause-taken
returns-clause-taken g c =
    post_taken c.args.areas c.args.near (g.V.View.held c.args.view.now) (g.V.View.hints c.args.view.now) c.args.draft.now c.post_page.new.draft c.args.root c.args.page (g.met.V.View.shares c.args.view.now) c.post_page.result c.post_page.ensures.at
