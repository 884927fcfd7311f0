use Rattle.std.proofs.Common.{sym, ap, ◌∙◌, subst}
use Rattle.std.specs.Prelude.{slice_get}
use Rattle.bx_post.specs.Rising.{IsRising, places_to}
use Rattle.bx_post.specs.Slots.{posted}
use Rattle.bx_post.proofs.Posts.{waiting_rises, next_at}
use Rattle.bx_post.proofs.post.Post.pending.Goals as goal

pub place_above-place-requires : goal.place_above-place-requires
place_above-place-requires c = subst IsRising (sym c.self.invariant.kept.pending) (waiting_rises 1 (posted c.self.inside.slots.items))

pub returns : goal.returns
returns c =
    let at = ap (λ ws. slice_get ws (places_to c.args.after ws)) c.self.invariant.kept.pending ∙ next_at c.args.after 1 (posted c.self.inside.slots.items) in
    rw (← c.self.view_is) (c.number_at.ensures ∙ ap (slice_get c.self.inside.waiting.items) c.place_above-place.ensures ∙ at)
