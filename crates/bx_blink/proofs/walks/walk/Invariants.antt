use Rattle.bx_blink.specs.declared.steps.End.{End}
use Rattle.bx_blink.specs.Walks.{reads_with, Ends, start, most}
use Rattle.std.specs.Prelude.{◌-◌}
use Rattle.bx_blink.proofs.walks.walk.Given as goal

abbrev pub invariant-loop-step : goal.invariant-loop-step
invariant-loop-step g l =
    (end : End) → Ends (reads_with (g.V.View.held l.view) (g.V.View.hints l.view) l.draft) l.target l.asked l.key (most - l.step) l.spot end
    → Ends (reads_with (g.V.View.held l.view) (g.V.View.hints l.view) l.draft) l.target l.asked l.key most (start l.root l.asked) end
