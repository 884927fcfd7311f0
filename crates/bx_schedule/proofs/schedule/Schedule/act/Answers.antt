use Rattle.std.proofs.Common.{ap}
use Rattle.bx_driver.specs.Racks.{KeepsRack}
use Rattle.bx_schedule.specs.Places.{place_of}
use Rattle.bx_schedule.specs.declared.schedule.Schedule.{Schedule}
use Rattle.bx_schedule.proofs.Acting.{acted}
use Rattle.bx_schedule.proofs.Crashing.{behind}
use Rattle.bx_schedule.proofs.schedule.Schedule.act.Goals as goal

pub move_disk-requires-clause-behind : goal.move_disk-requires-clause-behind
move_disk-requires-clause-behind g c = behind c.args.event.now c.in-Ok.outcome.stopped (g.C.Shows.seen c.args.self.now.cluster) (g.C.Shows.seen c.step.new.self) c.in-Ok.ensures.shows

pub returns-clause-acts : goal.returns-clause-acts
returns-clause-acts g c =
    let step = c.step.ensures in
    let keeps : KeepsRack g.R.Rack c.args.rack.now c.step.new.rack = record { sizes = step.sizes; later = step.later; tells = step.keeps_telling } in
    acted g.C.Shows.seen g.C.Cluster.led g.R.Rack (place_of c.args.self.now) (place_of c.note.new.self) c.step.new.self c.args.rack.now c.step.new.rack c.move_disk.new.rack c.args.noise c.args.event.now c.in-Ok.outcome
    (ap (λ (s : Schedule g.row.C.Denot). s.cluster) c.note.ensures.same) c.requires.allowed c.in-Ok.ensures.shows (λ tree parts tells led. c.in-Ok.ensures.at tree parts tells led)
    (λ tree parts tells led. c.in_ok-move_disk.ensures.led tree parts tells led)
    (λ x tree parts led. let account = g.met.C.Cluster.accounts c.step.new.self x tree parts led in (256, account.history, account.accounts.fits))
    c.in_ok-note.ensures.text c.in_ok-note.ensures.in_range c.in_ok-note.ensures.lacking (λ tells. c.in_ok-move_disk.ensures.moved tells) c.in-Ok.ensures.stopped keeps c.move_disk.ensures.keeps
