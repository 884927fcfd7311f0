use Rattle.std.proofs.Common.{◌∙◌, ◌%◌, ℕ, ap}
use Rattle.bx_node_steps.proofs.machine.Machine.to_clean.Goals as goal

pub returns-then-has_calls-clause-none : goal.returns-then-has_calls-clause-none
returns-then-has_calls-clause-none c = λ none area is. let some = c.has_calls.ensures.some c.if-has_calls.true in is.none_wait some.0 some.1

pub returns-clause-some : goal.returns-clause-some
returns-clause-some c =
    let tidy = c.in_ok-tidy.tidy in
    record {
      tidy = tidy;
      is = c.in_ok-tidy.was;
      awake = c.if-tidy.false;
      at = ap (λ (n : ℕ). tidy.tick % n) (c.from.ensures ∙ ap (λ (v : ℕ × ℕ). v.1) c.volume-areas.ensures.volume);
      none_wait = λ call waits. c.has_calls.ensures.none c.if-has_calls.false call waits;
      idle = c.in-Idle.is;
    }
