use Rattle.std.proofs.Common.{◌+◌, ◌∙◌, List, ap, drop, sym}
use Rattle.std.proofs.lemmas.List.{drop_more}
use Rattle.bx_clerk.specs.Places.{Place, without_places}
use Rattle.bx_clerk.proofs.asks.take_each.Goals as goal

pub loop-place-preserved : goal.loop-place-preserved
loop-place-preserved c =
    let all = c.args.places.now in
    let i = c.loop-place.place-index in (
      ap (without_places (drop (i + 1) all)) c.remove.ensures.entries
          ∙ sym (ap (λ (places : List Place). without_places places c.loop-place.line.entries) (drop_more all i _ c.loop-place-test.true))
          ∙ c.loop-place.invariant.0,
      c.remove.ensures.ordered,
    )
