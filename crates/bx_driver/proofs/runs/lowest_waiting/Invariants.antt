use Rattle.std.proofs.Common.{ℕ, ◌≤◌}
use Rattle.bx_base.specs.declared.names.Actor.{Actor}
use Rattle.bx_driver.specs.Runs.{MaySync}
use Rattle.bx_driver.proofs.runs.lowest_waiting.Given as goal

abbrev pub invariant-loop-disk : goal.invariant-loop-disk
invariant-loop-disk g l = (other : Actor) (its : ℕ) → MaySync (g.C.Shows.seen l.cluster) other its → l.disk ≤ its
