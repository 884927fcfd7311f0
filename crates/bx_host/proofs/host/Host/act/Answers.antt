use Rattle.std.proofs.Common.{arith, refl}
use Rattle.bx_host.specs.Standing.{KeepsRack}
use Rattle.bx_host.proofs.Acting.{acted}
use Rattle.bx_host.proofs.host.Host.act.Goals as goal

pub returns-clause-ends : goal.returns-clause-ends
returns-clause-ends g c =
    let step = c.step.ensures in
    let keeps : KeepsRack g.R.Rack c.args.rack.now c.step.new.rack = record { sizes = step.sizes; later = step.later; tells = step.keeps_telling } in
    let had = c.requires.now.left in
    acted g.C.Shows.seen g.C.Cluster.room g.C.Cluster.led g.R.Rack c.args.self.now _ c.note.new.self c.args.rack.now c.step.new.rack c.args.event.now c.in-Ok.outcome c.note.result
    c.note.ensures.same refl refl (omega (arith, had)) refl refl refl refl c.requires.now.allowed c.in-Ok.ensures.shows c.requires.now.at (λ tree parts tells led. c.in-Ok.ensures.at tree parts tells led) keeps c.note.ensures.ok c.note.ensures.lost c.note.ensures.why
