-- Steps of the checks.
use Rattle.bx_rpc.specs.declared.stop.Stop.{Stop}
use Rattle.bx_rpc.specs.declared.stop.Stop.TheVariants.{Refused, OutOfMemory}
use Rattle.bx_rpc.specs.Checks.{Verdict}
use Rattle.bx_rpc.specs.Stops.{StopsAs}

-- what stops as one says, stops as another does that follows
pub stops_then : (P Q : Verdict → Type 0) (stop : Stop) → StopsAs P stop → ((verdict : Verdict) → P verdict → Q verdict) → StopsAs Q stop
stops_then P Q (Refused number program) is then = (is.0, then _ is.1)
stops_then P Q OutOfMemory is then = tt
