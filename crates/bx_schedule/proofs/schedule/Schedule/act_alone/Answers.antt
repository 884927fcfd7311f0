use Rattle.std.proofs.lemmas.Result.{on_ok_weaker}
use Rattle.bx_schedule.specs.Places.{place_of}
use Rattle.bx_schedule.proofs.Going.{goes_alone}
use Rattle.bx_schedule.proofs.schedule.Schedule.act_alone.Goals as goal

pub returns-clause-does : goal.returns-clause-does
returns-clause-does g c =
    on_ok_weaker c.act.result (λ acts. goes_alone g.C.Shows.seen g.C.Cluster.led g.R.Rack c.args.noise c.args.event.now (place_of c.args.self.now) c.clock_after-self.result (place_of c.act.new.self) c.args.rack.now c.act.new.rack acts) c.act.ensures.acts
