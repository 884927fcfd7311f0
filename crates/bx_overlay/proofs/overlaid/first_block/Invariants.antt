use Rattle.std.proofs.Common.{◌≡◌, drop}
use Rattle.bx_logs.specs.Newest.{first_in}
use Rattle.bx_overlay.proofs.overlaid.first_block.Given as goal

abbrev pub invariant-loop-log : goal.invariant-loop-log
invariant-loop-log l = first_in (drop l.log-index l.logs) l.at ≡ first_in l.logs l.at
