use Rattle.std.proofs.Common.{◌≡◌, ◌∙◌, ℕ, ◌<◌, List, [], ◌∷◌, Option, None, Some, true, ap, arith, length, map, refl, sym, subst, rules}
use Rattle.std.specs.Prelude.{is_some}
use Rattle.std.proofs.lemmas.Iterator.Adapters.{YieldsList-from_vec}
use Rattle.std.proofs.lemmas.Iterator.Consumers.{YieldsList-end}
use Rattle.bx_node_tries.specs.Tries.{AllGo}
use Rattle.bx_node_tries.specs.Tries.AllGo.{NoneGo, MoreGo}
use Rattle.bx_node_tries.specs.Tries.CallGoes.{Stays}
use Rattle.bx_node_tries.specs.declared.round.Round.{Round}
use Rattle.bx_node_tries.specs.declared.round.Waiting.{Waiting}
use Rattle.bx_node_tries.proofs.Led.{none_led, still_needed}
use Rattle.bx_node_tries.proofs.tries.attempt_all.Goals as goal

not_none : {A : Type 0} (o : Option A) → is_some o ≡ true → o ≡ None → ⊥
not_none None some is = cc
not_none (Some a) some is = cc

none_below : {A : Type 0} (items : List A) (k : ℕ) → items ≡ [] → k < length items → ⊥
none_below items k is less = let low : k < 0 = subst (λ l. k < length l) is less in omega (arith, low)

all_of : (calls : List Waiting) → map (λ call. call) calls ≡ calls
all_of [] = refl
all_of (call ∷ calls) = ap (λ (l : List Waiting). call ∷ l) (all_of calls)

pub loop-call-init : goal.loop-call-init
loop-call-init g c = (
  tt,
  tt,
  λ truth first is stood. none_led _ _ _ truth first _ c.new.ensures.items,
  λ none k d less. absurd (none_below c.new-2.result.items k c.new-2.ensures.items less),
  NoneGo _,
  tt,
  λ may. refl,
  record { said = c.new.ensures.items; waiting = c.new-2.ensures.items; begun = refl; needs = c.new-3.ensures.items },
  λ k d less. absurd (none_below c.new-3.result.items k c.new-3.ensures.items less),
)

pub loop-call-preserved : goal.loop-call-preserved
loop-call-preserved g c =
    let none : c.loop-call.round.begun ≡ None = search rules in (
      tt,
      tt,
      λ truth first is stood. c.in_ok-try_one.ensures.led truth first is stood (c.loop-call.invariant.2 truth first is stood),
      λ later. c.in_ok-try_one.ensures.waits (c.loop-call.invariant.3 none),
      MoreGo _ _ _ _ _ c.loop-call.invariant.4 c.in_ok-try_one.ensures.goes,
      c.in_ok-try_one.ensures.begun,
      λ may. c.in_ok-try_one.ensures.may may,
      c.loop-call.invariant.7,
      c.in_ok-try_one.ensures.needs c.loop-call.invariant.8,
    )

pub loop-call-preserved-in-Continue-1 : goal.loop-call-preserved-in-Continue-1
loop-call-preserved-in-Continue-1 g c = (
  tt,
  tt,
  λ truth first is stood. c.loop-call.invariant.2 truth first is stood,
  λ none. absurd (not_none _ (sym c.is_some.ensures ∙ c.if-is_some.true) none),
  MoreGo _ _ _ _ _ c.loop-call.invariant.4 (Stays c.in_ok-push.ensures.items refl refl refl),
  c.loop-call.invariant.5,
  λ may. c.loop-call.invariant.6 may,
  c.loop-call.invariant.7,
  still_needed _ _ _ _ _ _ _ _ _ c.in_ok-push.ensures.items c.loop-call.invariant.8,
)

pub returns-clause-goes : goal.returns-clause-goes
returns-clause-goes g c =
    let first : Round = record { said = c.new.result; waiting = c.new-2.result; begun = None; needs = c.new-3.result } in
    let gives = c.into_iter-call-iterator.ensures.into_iter_gives in
    let all = YieldsList-end (YieldsList-from_vec c.args.calls.items gives.0 (omega (arith, gives.1))) c.loop-call.yielded _ c.loop-call.yielded_by c.next.result c.next.new.self c.in-None.is c.next.ensures.steps in
    (first, c.loop-call.invariant.7, subst (λ (l : List Waiting). AllGo c.args.newest c.args.moment l first c.loop-call.round) (sym (all_of c.loop-call.yielded) ∙ all.0) c.loop-call.invariant.4)
