use Rattle.std.proofs.Common.{refl, subst, sym}
use Rattle.std.proofs.lemmas.Result.{err_from_is_err_and}
use Rattle.bx_driver.specs.Machines.{AreInTurn, IsDown}
use Rattle.bx_script.specs.declared.line.Line.TheVariants.{RestartAll}
use Rattle.bx_schedule.specs.Places.{place_of}
use Rattle.bx_schedule.specs.Refusing.IsRefusal.{OfRestarts}
use Rattle.bx_schedule.proofs.Lining.{ends_back, ends_restarts}
use Rattle.bx_schedule.proofs.schedule.Schedule.restart_all.Goals as goal

pub returns-in_err-take_reading-clause-ends : goal.returns-in_err-take_reading-clause-ends
returns-in_err-take_reading-clause-ends g c =
    let p = err_from_is_err_and c.from_residual.result c.from_residual.ensures.1 in
    rw (p.1, p.2) (ends_back g.C.Shows.seen g.C.Cluster.led g.R.Rack (RestartAll c.args.reading) _ (place_of c.args.self.now) c.take_reading.new.clock c.args.rack.now (OfRestarts c.args.reading refl (sym c.in_err-take_reading.ensures.why)) c.in_err-take_reading.ensures.same)

pub returns-clause-ends : goal.returns-clause-ends
returns-clause-ends g c =
    let taken = c.in_ok-take_reading.ensures.taken in
    let turn = subst (AreInTurn (IsDown (g.C.Shows.seen c.args.self.now.cluster))) (sym c.items.ensures) c.in_ok-down.ensures.turn in
    ends_restarts g.C.Shows.seen g.C.Cluster.led g.R.Rack c.take_turns.result c.args.reading c.take_reading.new.clock c.items.result.now (place_of c.args.self.now) c.args.rack.now (place_of c.take_turns.new.self) c.take_turns.new.rack taken.0 taken.1 turn c.take_turns.ensures.does c.take_turns.ensures.same c.take_turns.ensures.why c.take_turns.ensures.keeps
