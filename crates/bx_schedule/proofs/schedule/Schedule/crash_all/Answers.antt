use Rattle.std.proofs.Common.{subst, sym}
use Rattle.bx_driver.specs.Machines.{AreInTurn, IsUp}
use Rattle.bx_schedule.specs.Places.{place_of}
use Rattle.bx_schedule.proofs.Lining.{ends_crashes}
use Rattle.bx_schedule.proofs.schedule.Schedule.crash_all.Goals as goal

pub returns-clause-ends : goal.returns-clause-ends
returns-clause-ends g c =
    let turn = subst (AreInTurn (IsUp (g.C.Shows.seen c.args.self.now.cluster))) (sym c.items.ensures) c.in_ok-up.ensures.turn in
    ends_crashes g.C.Shows.seen g.C.Cluster.led g.R.Rack c.take_turns.result c.args.noise 0 c.items.result.now (place_of c.args.self.now) c.args.rack.now (place_of c.take_turns.new.self) c.take_turns.new.rack turn c.take_turns.ensures.does c.take_turns.ensures.same c.take_turns.ensures.why c.take_turns.ensures.keeps
