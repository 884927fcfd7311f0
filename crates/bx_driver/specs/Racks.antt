-- What each call that drives a cluster leaves of its rack.
use Rattle.std.specs.Prelude.{◌≡◌}
use Rattle.bx_disk.specs.Counts.{NoneFalls}
use Rattle.bx_disk.specs.declared.rack.Rack as racks

-- A rack keeps its sizes and goes on to tell, and forgets no fault.
pub record KeepsRack {R : Type 0} (ra : racks.Ghosts R) (old new : R) : Type 0 where
  pub sizes : (ra.state new).sizes ≡ (ra.state old).sizes
  pub later : NoneFalls (ra.faults old) (ra.faults new) (ra.faults_of old) (ra.faults_of new)
  pub tells : ra.tells old → ra.tells new
