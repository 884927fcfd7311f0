use Rattle.std.specs.Prelude.{◌-◌}
use Rattle.bx_base.specs.declared.names.Mode.TheVariants.{Shared}
use Rattle.bx_blink.specs.declared.runs.RunEnd.{RunEnd}
use Rattle.bx_blink.specs.Walks.{reads_with, start, most}
use Rattle.bx_blink.specs.Runs.{Runs}
use Rattle.bx_blink.proofs.runs.run.Given as goal

abbrev pub invariant-loop-step : goal.invariant-loop-step
invariant-loop-step g l =
    (end : RunEnd) → Runs (reads_with (g.V.View.held l.view) (g.V.View.hints l.view) l.draft) (most - l.step) l.key l.spot end
    → Runs (reads_with (g.V.View.held l.view) (g.V.View.hints l.view) l.draft) most l.not_below (start l.from Shared) end
