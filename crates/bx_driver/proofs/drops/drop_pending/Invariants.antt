use Rattle.std.proofs.Common.{◌≡◌, ℕ, List}
use Rattle.bx_driver.specs.Drops.{GoesOn, dropped}
use Rattle.bx_driver.specs.Lanes.{is_on}
use Rattle.bx_driver.proofs.Dropping.{left_of}
use Rattle.bx_driver.proofs.drops.drop_pending.Given as goal

abbrev pub invariant-loop-number : goal.invariant-loop-number
invariant-loop-number g l = record {
  shows : g.C.Shows.seen l.cluster ≡ record (g.C.Shows.seen l.initial.cluster) { post = (g.C.Shows.seen l.cluster).post };
  post : dropped l.lane (g.C.Shows.seen l.cluster).post ≡ dropped l.lane (g.C.Shows.seen l.initial.cluster).post;
  at : GoesOn (g.C.Cluster.led l.initial.cluster) (g.C.Cluster.led l.cluster);
  room : (sizes : List ℕ) → g.C.Cluster.room l.initial.cluster sizes → g.C.Cluster.room l.cluster sizes;
  events : g.C.Cluster.events l.cluster ≡ g.C.Cluster.events l.initial.cluster;
}

abbrev pub decreases-loop-number : goal.decreases-loop-number
decreases-loop-number g l = left_of (is_on l.lane) (g.C.Shows.seen l.cluster).post
