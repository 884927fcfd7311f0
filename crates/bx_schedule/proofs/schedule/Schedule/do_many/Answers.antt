use Rattle.std.proofs.Common.{sym, subst}
use Rattle.bx_driver.specs.declared.lane.Lane.{Lane}
use Rattle.bx_schedule.specs.Doing.{Ends}
use Rattle.bx_schedule.specs.Places.{place_of}
use Rattle.bx_schedule.proofs.Lining.{ends_drop, ends_free, ends_hold}
use Rattle.bx_schedule.proofs.schedule.Schedule.do_many.Goals as goal

pub returns-in-Hold-clause-ends : goal.returns-in-Hold-clause-ends
returns-in-Hold-clause-ends g c =
    let lane : Lane = record { from = c.in-Hold.from; to = c.in-Hold.to; kind = c.in-Hold.kind } in
    subst (λ l. Ends g.C.Shows.seen g.C.Cluster.led g.R.Rack c.hold.result l (place_of c.args.self.now) c.args.rack.now (place_of c.hold.new.self) c.args.rack.now) (sym c.in-Hold.is)
    (ends_hold g.C.Shows.seen g.C.Cluster.led g.R.Rack c.hold.result lane (place_of c.args.self.now) (place_of c.hold.new.self) c.args.rack.now c.hold.ensures.done c.hold.ensures.refused)

pub returns-in-Free-clause-ends : goal.returns-in-Free-clause-ends
returns-in-Free-clause-ends g c =
    let lane : Lane = record { from = c.in-Free.from; to = c.in-Free.to; kind = c.in-Free.kind } in
    subst (λ l. Ends g.C.Shows.seen g.C.Cluster.led g.R.Rack c.free.result l (place_of c.args.self.now) c.args.rack.now (place_of c.free.new.self) c.args.rack.now) (sym c.in-Free.is)
    (ends_free g.C.Shows.seen g.C.Cluster.led g.R.Rack c.free.result lane (place_of c.args.self.now) (place_of c.free.new.self) c.args.rack.now c.free.ensures.done c.free.ensures.refused)

pub returns-in-Drop-clause-ends : goal.returns-in-Drop-clause-ends
returns-in-Drop-clause-ends g c =
    let lane : Lane = record { from = c.in-Drop.from; to = c.in-Drop.to; kind = c.in-Drop.kind } in
    subst (λ l. Ends g.C.Shows.seen g.C.Cluster.led g.R.Rack c.drop_on.result l (place_of c.args.self.now) c.args.rack.now (place_of c.drop_on.new.self) c.args.rack.now) (sym c.in-Drop.is)
    (ends_drop g.C.Shows.seen g.C.Cluster.led g.R.Rack c.drop_on.result lane (place_of c.args.self.now) (place_of c.drop_on.new.self) c.args.rack.now c.drop_on.ensures.same c.drop_on.ensures.done c.drop_on.ensures.refused c.drop_on.ensures.at)
