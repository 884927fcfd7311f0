use Rattle.std.proofs.Common.{arith, ap, sym, ◌∙◌, ◌≡◌, ◌≢◌, List, ℕ, Some, subst}
use Rattle.std.specs.Prelude.{slice_get, remove}
use Rattle.bx_post.specs.Lanes.{Laned}
use Rattle.bx_post.specs.Rising.{IsRising}
use Rattle.bx_post.proofs.Crossing.{not_there, taken_out}
use Rattle.bx_post.proofs.Slots.{inside_of, on_some}
use Rattle.bx_post.proofs.lanes.Lane.take_out.Goals as goal

abbrev HasRise : Laned → Type 0
HasRise lane = IsRising lane.numbers

pub returns-then-stands_at : goal.returns-then-stands_at
returns-then-stands_at c =
    let ns = c.self.inside.numbers.items in
    let P : ℕ → Type 0 = λ p. slice_get c.self.inside.numbers.items p ≡ Some c.args.number in
    let stands : P c.place_above-place.result = c.stands_at.ensures.there c.if-stands_at.true in
    let rises : IsRising c.self.inside.numbers.items = subst HasRise (sym c.self.view_is) c.requires.rises in
    let at = subst P c.place_above-place.ensures stands in
    let some = c.remove.ensures.variant.1 (omega (arith, inside_of ns c.place_above-place.result c.args.number stands)) in
    let gone = on_some c.remove.result _ some c.remove.ensures.items in
    let left = gone ∙ ap (remove ns) c.place_above-place.ensures ∙ taken_out c.args.number ns c.requires.some rises at in
    let lane : List ℕ → Laned = λ ns. record { from = c.self.inside.from; to = c.self.inside.to; kind = c.self.inside.kind; numbers = ns } in
    rw (← c.self.view_is) (ap lane left)

pub returns-else-stands_at : goal.returns-else-stands_at
returns-else-stands_at c =
    let ns = c.self.inside.numbers.items in
    let P : ℕ → Type 0 = λ p. slice_get c.self.inside.numbers.items p ≢ Some c.args.number in
    let absent : P c.place_above-place.result = c.stands_at.ensures.elsewhere c.if-stands_at.false in
    let rises : IsRising c.self.inside.numbers.items = subst HasRise (sym c.self.view_is) c.requires.rises in
    let left = not_there c.args.number ns c.requires.some rises (subst P c.place_above-place.ensures absent) in
    let lane : List ℕ → Laned = λ ns. record { from = c.self.inside.from; to = c.self.inside.to; kind = c.self.inside.kind; numbers = ns } in
    rw (← c.self.view_is) (ap lane left)
