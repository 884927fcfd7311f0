use Rattle.std.proofs.Common.{arith, ap, sym, ◌∙◌, ◌≡◌, ◌<◌, ◌≤◌, ◌++◌, ◌∷◌, [], length, subst, true}
use Rattle.std.specs.List.{AllByRecursion}
use Rattle.std.proofs.lemmas.Result.{on_ok_weaker}
use Rattle.std.specs.Prelude.{slice_set}
use Rattle.bx_post.specs.Lanes.{filed, is_on}
use Rattle.bx_post.proofs.Each.{take_all}
use Rattle.bx_post.proofs.Filing.{IsElse, filed_at, filed_none}
use Rattle.bx_post.proofs.Slots.{got}
use Rattle.bx_post.proofs.lanes.file.Goals as goal

pub returns-then-has-clause-ok : goal.returns-then-has-clause-ok
returns-then-has-clause-ok c =
    let items = c.loop-at.lanes.items in
    let inside : c.loop-at.at < length c.loop-at.lanes.items = omega arith in
    let there = got items c.loop-at.at c.index_mut.result.now inside c.index_mut.ensures.value in
    let seen = got items c.loop-at.at c.index.result.now inside c.index.ensures in
    let it : c.index.result.now ≡ c.index_mut.result.now = cc in
    let on : is_on c.index_mut.result.now c.args.letter.now ≡ true = ap (λ l. is_on l c.args.letter.now) (sym it) ∙ sym c.has.ensures ∙ c.if-has.true in
    on_ok_weaker c.push.result
    (λ e. ap (slice_set items c.loop-at.at) e ∙ filed_at c.args.letter.now c.args.number c.loop-at.at items c.index_mut.result.now c.loop-at.invariant.1 there on ∙ ap (filed c.args.letter.now c.args.number) c.loop-at.invariant.0) c.push.ensures.ok

pub returns-clause-ok : goal.returns-clause-ok
returns-clause-ok c =
    let items = c.loop-at.lanes.items in
    let past : length c.loop-at.lanes.items ≤ c.loop-at.at = omega arith in
    let all = subst (AllByRecursion (IsElse c.args.letter.now)) (take_all c.loop-at.at items past) c.loop-at.invariant.1 in
    c.in_ok-push.ensures.items ∙ ap (λ l. items ++ l ∷ []) c.in_ok-of.ensures ∙ sym (filed_none c.args.letter.now c.args.number items all) ∙ ap (filed c.args.letter.now c.args.number) c.loop-at.invariant.0
