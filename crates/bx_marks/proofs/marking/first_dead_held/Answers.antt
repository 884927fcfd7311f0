use Rattle.std.proofs.Common.{ℕ, ap, sym, ◌∙◌}
use Rattle.bx_base.specs.declared.names.Mode.TheVariants.{Shared}
use Rattle.bx_marks.proofs.marking.first_dead_held.Goals as goal

pub returns-in-None-2 : goal.returns-in-None-2
returns-in-None-2 g c =
    record {
      block = c.in-Some.block.now;
      there = ap (λ (n : ℕ). g.V.View.held c.args.view.now n Shared) (sym c.own_block-own.ensures) ∙ sym c.in-Some.ensures;
      none = rw c.in-None-2.is at c.in_ok-slots_of-in-Some.ensures.none;
    }
