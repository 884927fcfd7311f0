use Rattle.std.proofs.Common.{arith, sym, ap, ◌∙◌, ◌≡◌, ◌≢◌, ◌-◌, ◌<◌, length, subst, Some, List, ℕ}
use Rattle.std.specs.Prelude.{slice_get, remove}
use Rattle.bx_post.specs.Rising.{IsRising, places_to}
use Rattle.bx_post.specs.Slots.{posted, waiting_from}
use Rattle.bx_post.proofs.Posts.{beyond, waiting_rises, crossed, uncrossed}
use Rattle.bx_post.proofs.Slots.{number_inside, got, inside_of, on_some, settled_at, still_numbered}
use Rattle.bx_post.proofs.post.cross_out.Goals as goal

pub returns-then-number-eq0-clause-settled : goal.returns-then-number-eq0-clause-settled
returns-then-number-eq0-clause-settled c = sym (beyond 1 c.args.number (posted c.args.slots.now.items) (omega arith))

pub place_above-place-requires : goal.place_above-place-requires
place_above-place-requires c = subst IsRising (sym c.requires.pending) (waiting_rises 1 (posted c.args.slots.now.items))

pub index_mut-requires : goal.index_mut-requires
index_mut-requires c = omega (arith, number_inside c.args.slots.now.items c.args.waiting.now.items c.args.number c.place_above-place.result c.requires (c.stands_at.ensures.there c.if-stands_at.true))

pub returns-then-stands_at-clause-settled : goal.returns-then-stands_at-clause-settled
returns-then-stands_at-clause-settled c =
    let inside : c.args.number - 1 < length c.args.slots.now.items = omega (arith, number_inside c.args.slots.now.items c.args.waiting.now.items c.args.number c.place_above-place.result c.requires (c.stands_at.ensures.there c.if-stands_at.true)) in
    let there = got c.args.slots.now.items (c.args.number - 1) c.index_mut.result.now inside c.index_mut.ensures.value in
    settled_at 1 c.args.number (c.args.number - 1) c.args.slots.now.items c.index_mut.result.now (omega arith) there

pub returns-then-stands_at-clause-kept : goal.returns-then-stands_at-clause-kept
returns-then-stands_at-clause-kept c =
    let ws = c.args.waiting.now.items in
    let all = posted c.args.slots.now.items in
    let stands : slice_get c.args.waiting.now.items c.place_above-place.result ≡ Some c.args.number = c.stands_at.ensures.there c.if-stands_at.true in
    let inside : c.args.number - 1 < length c.args.slots.now.items = omega (arith, number_inside c.args.slots.now.items c.args.waiting.now.items c.args.number c.place_above-place.result c.requires stands) in
    let there = got c.args.slots.now.items (c.args.number - 1) c.index_mut.result.now inside c.index_mut.ensures.value in
    let some = c.remove.ensures.variant.1 (omega (arith, inside_of ws c.place_above-place.result c.args.number stands)) in
    let gone = on_some c.remove.result _ some c.remove.ensures.items in
    let P : ℕ → Type 0 = λ p. slice_get c.args.waiting.now.items p ≡ Some c.args.number in
    let Q : List ℕ → Type 0 = λ w. slice_get w (places_to (c.args.number - 1) w) ≡ Some c.args.number in
    let at = subst Q c.requires.pending (subst P c.place_above-place.ensures stands) in
    let same = ap (remove ws) c.place_above-place.ensures ∙ ap (λ w. remove w (places_to (c.args.number - 1) w)) c.requires.pending in
    record {
      numbers = still_numbered 1 (c.args.number - 1) c.args.slots.now.items c.index_mut.result.now there c.requires.numbers;
      pending = gone ∙ same ∙ crossed 1 c.args.number all (omega arith) (omega arith) at
          ∙ ap (waiting_from 1) (sym (settled_at 1 c.args.number (c.args.number - 1) c.args.slots.now.items c.index_mut.result.now (omega arith) there));
    }

pub returns-else-stands_at-clause-settled : goal.returns-else-stands_at-clause-settled
returns-else-stands_at-clause-settled c =
    let ws = c.args.waiting.now.items in
    let all = posted c.args.slots.now.items in
    let P : ℕ → Type 0 = λ p. slice_get c.args.waiting.now.items p ≢ Some c.args.number in
    let Q : List ℕ → Type 0 = λ w. slice_get w (places_to (c.args.number - 1) w) ≢ Some c.args.number in
    let absent = subst Q c.requires.pending (subst P c.place_above-place.ensures (c.stands_at.ensures.elsewhere c.if-stands_at.false)) in
    sym (uncrossed 1 c.args.number all (omega arith) (omega arith) absent)
