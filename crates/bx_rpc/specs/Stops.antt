-- Why the checks of a call stop short.
use Rattle.std.specs.Prelude.{◌<◌}
use Rattle.bx_rpc.specs.declared.stop.Stop.{Stop}
use Rattle.bx_rpc.specs.declared.stop.Stop.TheVariants.{Refused, OutOfMemory}
use Rattle.bx_rpc.specs.Checks.{Verdict}
use Rattle.bx_rpc.specs.Checks.Verdict.{refused}

-- a refusal that is the verdict, or want of memory
abbrev pub StopsAs : (Verdict → Type 0) → Stop → Type 0
StopsAs Says (Refused number program) = (0 < number) × Says (refused number program)
StopsAs Says OutOfMemory = Unit {0}
