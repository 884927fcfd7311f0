use Rattle.std.proofs.Common.{◌∙◌, ◌≡◌, ℕ, false, Option, None, Some, IfSome, refl, sym, ap, subst, arith}
use Rattle.bx_node_steps.specs.Calls.{CallOf, WaitsAt}
use Rattle.bx_node_steps.specs.declared.machine.Tidy.{Tidy}
use Rattle.bx_node_steps.proofs.machine.Machine.tick.Goals as goal
use Rattle.bx_node_steps.proofs.machine.Machine.tick.Goals.{in-Some, in-None}

if_any : {P : Tidy → Type 0} (found : Option Tidy) → ((tidy : Tidy) → P tidy) → IfSome found P
if_any None all = tt
if_any (Some tidy) all = all tidy

-- a tidy that doesn't rest
abbrev awake : ℕ → Option Tidy
awake tick = Some (record { tick = tick; rests = false })

pub returns-then-has_calls : goal.returns-then-has_calls
returns-then-has_calls c =
    let waiting = c.has_calls.ensures.some c.if-has_calls.true in
    record {
      only = refl;
      counts = λ less. let added = c.saturating_add-self.ensures in omega (arith, less, added);
      wakes = if_any c.args.self.now.tidy (λ tidy none. absurd (none waiting.0 waiting.1));
      begins = λ none none_waits. absurd (none_waits waiting.0 waiting.1);
      waits = λ call waits. refl;
    }

pub returns : goal.returns
returns c = elim c.match-self.branch [
  | in-Some w ↦ record {
    only = refl;
    counts = λ less. let added = c.saturating_add-self.ensures in omega (arith, less, added);
    wakes = subst (λ (t : Option Tidy). IfSome t (λ tidy. ((call : CallOf) → WaitsAt c.args.self.now call → ⊥) → awake c.match-self.tick ≡ awake tidy.tick)) (sym w.in-Some.is) (λ none. ap awake w.tick-is);
    begins = λ none none_waits. absurd (let wrong = sym w.in-Some.is ∙ none in cc);
    waits = λ call waits. absurd (c.has_calls.ensures.none c.if-has_calls.false call waits);
  }
  | in-None w ↦ record {
    only = refl;
    counts = λ less. let added = c.saturating_add-self.ensures in omega (arith, less, added);
    wakes = subst (λ (t : Option Tidy). IfSome t (λ tidy. ((call : CallOf) → WaitsAt c.args.self.now call → ⊥) → awake c.match-self.tick ≡ awake tidy.tick)) (sym w.in-None.is) tt;
    begins = λ none none_waits. ap awake w.tick-is;
    waits = λ call waits. absurd (c.has_calls.ensures.none c.if-has_calls.false call waits);
  }
]
