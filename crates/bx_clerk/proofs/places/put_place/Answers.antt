use Rattle.std.proofs.Common.{List, ap, ◌∙◌, arith}
use Rattle.bx_clerk.specs.Places.{Place, place_in}
use Rattle.bx_clerk.proofs.Placing.{place_within, put_new}
use Rattle.bx_clerk.proofs.places.put_place.Goals as goal

pub insert-requires : goal.insert-requires
insert-requires c =
    let is = c.index_for-index.ensures ∙ ap (λ (places : List Place). place_in c.args.place.0 places) c.deref.ensures.value in
    omega (arith, is, place_within c.args.places.now.items c.args.place.0, c.args.places.now.ok)

pub returns-clause-ok : goal.returns-clause-ok
returns-clause-ok c =
    put_new c.args.places.now.items c.insert.new.self.items c.args.place c.index_for-index.result
    (c.index_for-index.ensures ∙ ap (λ (places : List Place). place_in c.args.place.0 places) c.deref.ensures.value)
    (grind (arith, c.in_ok-insert.ensures.items))
