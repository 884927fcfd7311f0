use Rattle.std.proofs.Common.{ap, sym, ◌∙◌, arith}
use Rattle.rand_pcg.specs.Lcg.{Lcg}
use Rattle.bx_disk.specs.Crash.{seeded}
use Rattle.bx_generated.specs.Draws.{after_five, drawn}
use Rattle.bx_generated.proofs.Drawing.{none_drawn, one_drawn}
use Rattle.bx_generated.proofs.generated.Generated.new.Goals as goal

pub invariant_of-result : goal.invariant_of-result
invariant_of-result c =
    let start = none_drawn (seeded c.args.seed) in (
      c.next_draw-next.ensures.after ∙ ap after_five c.seeded-generator.ensures ∙ sym (one_drawn (seeded c.args.seed)),
      c.next_draw-next.ensures.value ∙ ap (drawn c.args.nodes) (c.seeded-generator.ensures ∙ sym start),
      c.next_draw-next.ensures.first,
      c.next_draw-next.ensures.second,
      c.requires.some,
      omega arith,
      c.requires.most,
    )
