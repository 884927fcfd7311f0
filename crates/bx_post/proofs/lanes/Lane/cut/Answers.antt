use Rattle.std.proofs.Common.{rules, leb, ap, List, ℕ}
use Rattle.std.proofs.lemmas.Fn.{filter_same}
use Rattle.bx_post.specs.Lanes.{Laned}
use Rattle.bx_post.proofs.lanes.Lane.cut.Goals as goal

pub returns : goal.returns
returns c =
    let left = filter_same _ (λ n. leb n c.args.bound) _ (λ x b f h. search rules) _ _ c.retain.ensures.filtered in
    let lane : List ℕ → Laned = λ ns. record { from = c.self.inside.from; to = c.self.inside.to; kind = c.self.inside.kind; numbers = ns } in
    rw (← c.self.view_is) (ap lane left)
