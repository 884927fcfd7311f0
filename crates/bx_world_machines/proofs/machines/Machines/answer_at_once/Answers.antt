use Rattle.std.proofs.Common.{refl}
use Rattle.bx_world_machines.proofs.AnsweredAtOnce.{answered_by}
use Rattle.bx_world_machines.proofs.machines.Machines.answer_at_once.Goals as goal

pub returns-in-Answered-clause-stands : goal.returns-in-Answered-clause-stands
returns-in-Answered-clause-stands g c = λ letters x tree course standing.
    let led = c.in_ok-said.ensures.leads standing.0.course.truth tree (rw c.engine.ensures standing.0.stands.at.volume.is) in
    answered_by g.G.Register g.O.Owners g.S.Store g.E.Engine c.args.self.now c.args.call.number c.requires.newer letters x tree _ course standing (rw (c.engine.ensures, c.in-Answered.is) at led)

pub returns-in-Waits-clause-stands : goal.returns-in-Waits-clause-stands
returns-in-Waits-clause-stands g c = λ letters x tree course standing. record { next = tree; leads = refl; stands = standing }
