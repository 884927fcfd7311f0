use Rattle.std.proofs.Common.{ap, sym, ◌≡◌, ◌+◌, ◌<◌, ◌∙◌, arith}
use Rattle.bx_disk.specs.Crash.{seeded}
use Rattle.bx_generated.specs.Draws.{after_five, drawn, generator_behind}
use Rattle.bx_generated.proofs.Drawing.{next_drawn}
use Rattle.bx_generated.proofs.generated.Generated.put_next.Goals as goal

pub invariant_of-self : goal.invariant_of-self
invariant_of-self c =
    let left : c.self.inside.made < c.self.inside.calls = rw (← c.self.view_is) at c.requires in
    let was = c.self.invariant.0 in (
      c.next_draw-self-inside.ensures.after ∙ ap after_five was ∙ sym (next_drawn (c.self.inside.made + 1) (seeded c.self.inside.seed)),
      c.next_draw-self-inside.ensures.value ∙ ap (drawn c.self.inside.nodes) was,
      c.next_draw-self-inside.ensures.first,
      c.next_draw-self-inside.ensures.second,
      c.self.invariant.4,
      omega (arith, left),
      c.self.invariant.6,
    )
