use Rattle.std.proofs.Common.{◌≡◌, ◌+◌, ◌≤◌, reverse, take}
use Rattle.bx_schedule.specs.Doing.{AreTurns, turn_of}
use Rattle.bx_schedule.specs.Places.{CanGo, Goes, HasAsMany, place_of}
use Rattle.bx_schedule.proofs.schedule.Schedule.take_turns.Given as goal

abbrev pub invariant-loop-who : goal.invariant-loop-who
invariant-loop-who g l = record {
  so : Goes g.C.Shows.seen g.C.Cluster.led g.R.Rack (AreTurns (turn_of l.down l.reading) l.down (reverse (take l.who-index l.these))) l.noise (place_of l.fn.self) l.fn.rack (place_of l.self) l.rack;
  can : CanGo g.C.Shows.seen g.C.Cluster.room g.R.Rack (place_of l.self) l.rack;
  events : g.C.Cluster.events l.self.cluster ≤ g.C.Cluster.events l.fn.self.cluster + l.who-index;
  many : HasAsMany (g.C.Shows.seen l.fn.self.cluster) (g.C.Shows.seen l.self.cluster);
  held : l.self.held ≡ l.fn.self.held;
  clock : l.self.clock ≡ l.fn.self.clock;
}
