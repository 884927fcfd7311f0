use Rattle.std.proofs.Common.{arith, refl, sym, ap, ◌∙◌, ◌≡◌, ◌+◌, ◌++◌, ◌∷◌, [], length, map, subst, ℕ, List}
use Rattle.std.proofs.lemmas.List.{length_push}
use Rattle.std.proofs.lemmas.Iterator.Adapters.{YieldsList-from_vec}
use Rattle.std.proofs.lemmas.Iterator.Consumers.{YieldsList-end}
use Rattle.bx_post.specs.declared.packets.Letter.{Letter}
use Rattle.bx_post.specs.Posts.{fresh}
use Rattle.bx_post.specs.Slots.{posted, count_from, waiting_from, AreNumbered}
use Rattle.bx_post.proofs.Posts.{waiting_behind}
use Rattle.bx_post.proofs.Slots.{as_long, posted_behind, numbered_behind, count_more, fresh_behind, as_fresh}
use Rattle.bx_post.proofs.post.put_behind.Goals as goal

pub loop-letter-preserved : goal.loop-letter-preserved
loop-letter-preserved c =
    let added = c.loop-letter.added.items in
    let count : length c.loop-letter.added.items ≡ length c.loop-letter.yielded = sym (as_long added) ∙ ap length c.loop-letter.invariant.2 ∙ as_fresh c.loop-letter.yielded in
    let first = length c.args.slots.now.items + 1 in
    let number : c.loop-letter.number + 1 ≡ length c.args.slots.now.items + 1 + length c.loop-letter.added.items = omega arith in
    let more = length_push c.loop-letter.yielded c.in-Some.letter in
    let along : length c.args.slots.now.items + 1 + length c.loop-letter.yielded ≡ c.loop-letter.number + 1 = omega arith in (
      tt,
      tt,
      ap posted c.in_ok-push.ensures.items ∙ posted_behind added _ ∙ ap (λ xs. xs ++ fresh c.in-Some.letter ∷ []) c.loop-letter.invariant.2 ∙ sym (fresh_behind c.loop-letter.yielded c.in-Some.letter),
      subst (AreNumbered first) (sym c.in_ok-push.ensures.items) (numbered_behind first added _ c.loop-letter.invariant.3 (number, tt)),
      c.in_ok-push_back.ensures.items ∙ ap (λ xs. xs ++ (c.loop-letter.number + 1) ∷ []) c.loop-letter.invariant.4
          ∙ ap (λ n. count_from first (length c.loop-letter.yielded) ++ n ∷ []) (sym along) ∙ sym (count_more first (length c.loop-letter.yielded)) ∙ ap (count_from first) (sym more),
      omega (arith, more),
    )

all_of : (xs : List Letter) → map (λ y. y) xs ≡ xs
all_of [] = refl
all_of (x ∷ xs) = ap (λ ys. x ∷ ys) (all_of xs)

pub returns-clause-ok : goal.returns-clause-ok
returns-clause-ok c =
    let g = c.into_iter-letter-iterator.ensures.into_iter_gives in
    let all = YieldsList-end (YieldsList-from_vec c.args.letters.items g.0 (omega (arith, g.1))) c.loop-letter.yielded _ c.loop-letter.yielded_by c.next.result c.next.new.self c.in-None.is c.next.ensures.steps in
    let letters = sym (all_of c.loop-letter.yielded) ∙ all.0 in
    ap posted c.in_ok-append.ensures.items ∙ posted_behind c.args.slots.now.items c.loop-letter.added.items
    ∙ ap (λ xs. posted c.args.slots.now.items ++ xs) (c.loop-letter.invariant.2 ∙ ap (map fresh) letters)

pub returns-clause-kept : goal.returns-clause-kept
returns-clause-kept c =
    let slots = c.args.slots.now.items in
    let added = c.loop-letter.added.items in
    let yielded = c.loop-letter.yielded in
    let behind : length c.args.slots.now.items + 1 ≡ 1 + length c.args.slots.now.items = omega arith in
    let P : ℕ → Type 0 = λ n. AreNumbered n c.loop-letter.added.items in
    let numbers = numbered_behind 1 slots added c.requires.numbers (subst P behind c.loop-letter.invariant.3) in
    let long : length c.args.slots.now.items + 1 ≡ 1 + length (posted c.args.slots.now.items) = omega (arith, as_long c.args.slots.now.items) in
    let shown = ap posted c.in_ok-append.ensures.items ∙ posted_behind slots added ∙ ap (λ xs. posted slots ++ xs) c.loop-letter.invariant.2 in
    record {
      numbers = subst (AreNumbered 1) (sym c.in_ok-append.ensures.items) numbers;
      pending = c.in_ok-append-2.ensures.items ∙ ap (λ ws. ws ++ c.loop-letter.numbers.items) (c.in_ok-reserve.ensures.items ∙ c.requires.pending)
          ∙ ap (λ ns. waiting_from 1 (posted slots) ++ ns) (c.loop-letter.invariant.4 ∙ ap (λ n. count_from n (length yielded)) long)
          ∙ sym (waiting_behind 1 (posted slots) yielded) ∙ ap (waiting_from 1) (sym shown);
    }
