use Rattle.std.proofs.Common.{OnOk, subst}
use Rattle.bx_driver.specs.Steps.{IsOne}
use Rattle.bx_schedule.specs.Doing.{Ends}
use Rattle.bx_schedule.specs.Places.{Goes, place_of}
use Rattle.bx_schedule.proofs.Lining.{ends_alone, few_more, line_moment}
use Rattle.bx_schedule.proofs.schedule.Schedule.step.Goals as goal

pub act_alone-requires-clause-moment : goal.act_alone-requires-clause-moment
act_alone-requires-clause-moment g c = line_moment (g.C.Shows.seen c.args.self.now.cluster) c.args.line.now c.in-Some.event c.requires.line.0 c.in-Some.ensures.of

pub returns-in-Some-clause-ends : goal.returns-in-Some-clause-ends
returns-in-Some-clause-ends g c =
    let self = c.args.self.now in
    let does = subst (λ n. OnOk c.act_alone.result (Goes g.C.Shows.seen g.C.Cluster.led g.R.Rack (IsOne c.in-Some.event) n (record { cluster = self.cluster; held = self.held; clock = self.clock; lacking = self.lacking; text = c.clear.new.self.items }) c.args.rack.now (place_of c.act_alone.new.self) c.act_alone.new.rack)) c.noise_of.ensures c.act_alone.ensures.does in
    subst (λ t. Ends g.C.Shows.seen g.C.Cluster.led g.R.Rack c.act_alone.result c.args.line.now (record { cluster = self.cluster; held = self.held; clock = self.clock; lacking = self.lacking; text = t }) c.args.rack.now (place_of c.act_alone.new.self) c.act_alone.new.rack) c.clear.ensures.items
    (ends_alone g.C.Shows.seen g.C.Cluster.led g.R.Rack c.act_alone.result c.args.line.now c.in-Some.event (record { cluster = self.cluster; held = self.held; clock = self.clock; lacking = self.lacking; text = c.clear.new.self.items }) c.args.rack.now (place_of c.act_alone.new.self) c.act_alone.new.rack
    c.in-Some.ensures.of c.act_alone.ensures.allowed does c.act_alone.ensures.clock c.act_alone.ensures.held c.act_alone.ensures.refused c.act_alone.ensures.keeps)

pub returns-in-Some-clause-counted : goal.returns-in-Some-clause-counted
returns-in-Some-clause-counted g c = few_more c.act_alone.result c.in-Some.event _ _ c.act_alone.ensures.counted

pub returns-in-None-clause-ends : goal.returns-in-None-clause-ends
returns-in-None-clause-ends g c =
    let self = c.args.self.now in
    subst (λ t. Ends g.C.Shows.seen g.C.Cluster.led g.R.Rack c.do_many.result c.args.line.now (record { cluster = self.cluster; held = self.held; clock = self.clock; lacking = self.lacking; text = t }) c.args.rack.now (place_of c.do_many.new.self) c.do_many.new.rack) c.clear.ensures.items c.do_many.ensures.ends
