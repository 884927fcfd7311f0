use Rattle.std.proofs.Common.{◌≡◌, max}
use Rattle.bx_disk.specs.declared.noise.Noise.TheVariants.{Keep}
use Rattle.bx_schedule.specs.Places.{CanGo, Goes, place_of}
use Rattle.bx_schedule.proofs.Dues.{AreDue}
use Rattle.bx_schedule.proofs.schedule.Schedule.run.Given as goal

abbrev pub invariant-loop-turn : goal.invariant-loop-turn
invariant-loop-turn g l = record {
  so : Goes g.C.Shows.seen g.C.Cluster.led g.R.Rack (AreDue l.fn.self.held l.reading l._turn) Keep (place_of l.fn.self) l.fn.rack (place_of l.self) l.rack;
  can : CanGo g.C.Shows.seen g.C.Cluster.room g.R.Rack (place_of l.self) l.rack;
  events : g.C.Cluster.events l.self.cluster ≡ g.C.Cluster.events l.fn.self.cluster;
  held : l.self.held ≡ l.fn.self.held;
  clock : l.self.clock ≡ max l.fn.self.clock l.reading;
}
