use Rattle.std.proofs.Common.{◌≡◌, ℕ, List}
use Rattle.bx_driver.specs.Drops.{GoesOn, dropped_by, to_down}
use Rattle.bx_driver.proofs.Dropping.{left_of}
use Rattle.bx_driver.proofs.drops.drop_lost.Given as goal

abbrev pub invariant-loop-number : goal.invariant-loop-number
invariant-loop-number g l = record {
  shows : g.C.Shows.seen l.cluster ≡ record (g.C.Shows.seen l.initial.cluster) { post = (g.C.Shows.seen l.cluster).post };
  post : dropped_by (to_down (g.C.Shows.seen l.initial.cluster).down) (g.C.Shows.seen l.cluster).post ≡ dropped_by (to_down (g.C.Shows.seen l.initial.cluster).down) (g.C.Shows.seen l.initial.cluster).post;
  at : GoesOn (g.C.Cluster.led l.initial.cluster) (g.C.Cluster.led l.cluster);
  room : (sizes : List ℕ) → g.C.Cluster.room l.initial.cluster sizes → g.C.Cluster.room l.cluster sizes;
  events : g.C.Cluster.events l.cluster ≡ g.C.Cluster.events l.initial.cluster;
}

abbrev pub decreases-loop-number : goal.decreases-loop-number
decreases-loop-number g l = left_of (to_down (g.C.Shows.seen l.initial.cluster).down) (g.C.Shows.seen l.cluster).post
