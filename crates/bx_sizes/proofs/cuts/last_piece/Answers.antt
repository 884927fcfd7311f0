use Rattle.std.proofs.Common.{◌≡◌, ◌+◌, ◌-◌, ◌/◌, ◌<◌, ◌≤◌, ℕ, None, arith, ap, sym, ◌∙◌}
use Rattle.bx_page.specs.Contents.{value_of}
use Rattle.bx_truth.specs.Keys.{content_key}
use Rattle.bx_truth.specs.PageTrees.{handle_in, map_of}
use Rattle.bx_sizes.proofs.Halves.{last_found, never, none_joined}
use Rattle.bx_sizes.proofs.cuts.last_piece.Goals as goal

pub loop-low-preserved-in-Ok-Some : goal.loop-low-preserved-in-Ok-Some
loop-low-preserved-in-Ok-Some g c =
    let w = rw c.in-Ok-Some.field-0-is at c.in-Ok-Some.ensures.within in
    let above : c.loop-low.low ≤ c.in-Ok-Some.index = omega (arith, w.0) in
    let below : c.in-Ok-Some.index < c.loop-low.high = w.1 in
    record {
      low = omega (arith, above, c.loop-low.invariant.low, c.from-low.ensures);
      high = c.loop-low.invariant.high;
      within = (ap (λ (n : ℕ). n + 1) c.from-low.ensures, omega (arith, above, c.loop-low.invariant.low), omega (arith, below, c.loop-low.invariant.high));
      none = c.loop-low.invariant.none;
      there = λ truth tree u. (rw c.in-Ok-Some.field-0-is at (c.in-Ok-Some.ensures.map truth tree u)).there;
    }

pub loop-low-preserved : goal.loop-low-preserved
loop-low-preserved g c = record {
  low = c.loop-low.invariant.low;
  high = omega (arith, c.loop-low.invariant.high, c.loop-low-test.true);
  within = c.loop-low.invariant.within;
  none = λ truth tree u.
      none_joined (map_of tree) (c.loop-low.low + (c.loop-low.high - c.loop-low.low) / 2) c.loop-low.high c.args.end (rw c.in-Ok-None.field-0-is at (c.in-Ok-None.ensures.map truth tree u)) (c.loop-low.invariant.none truth tree u);
  there = c.loop-low.invariant.there;
}

pub returns-in-Ok-None-value_at-clause-map : goal.returns-in-Ok-None-value_at-clause-map
returns-in-Ok-None-value_at-clause-map g c = λ truth tree u.
    let there = rw c.in-Some.is at (c.loop-low.invariant.there truth tree u) in
    let none : value_of (map_of tree) (content_key c.in-Some.index) ≡ None = sym (rw (c.in-Ok-None-value_at.field-0-is, c.content_key.ensures) at (c.in-Ok-None-value_at.ensures.map truth tree u)) in
    never there.value (sym there.is ∙ none)

pub returns-in-Ok-Some-value_at-clause-map : goal.returns-in-Ok-Some-value_at-clause-map
returns-in-Ok-Some-value_at-clause-map g c = λ truth tree u.
    last_found (map_of tree) c.args.from c.loop-low.low c.loop-low.high c.args.end c.in-Some.index c.handle_in.result c.in-Ok-Some-value_at.value (rw c.in-Some.is at c.loop-low.invariant.within) c.loop-low-test.false
    (c.loop-low.invariant.none truth tree u) (sym (rw (c.in-Ok-Some-value_at.field-0-is, c.content_key.ensures) at (c.in-Ok-Some-value_at.ensures.map truth tree u))) (c.handle_in.ensures ∙ ap handle_in c.bytes.ensures)
