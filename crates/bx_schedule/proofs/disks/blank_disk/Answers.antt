use Rattle.std.proofs.Common.{sym, ◌∙◌}
use Rattle.bx_disk.specs.Disks.{Disks}
use Rattle.bx_schedule.proofs.Crashing.{led_blanked}
use Rattle.bx_schedule.proofs.disks.blank_disk.Goals as goal

pub returns-in-None-clause-led : goal.returns-in-None-clause-led
returns-in-None-clause-led g c = λ tree parts tells led.
    let x = g.R.Rack.state c.args.rack.now in
    led_blanked c.blank.result (λ (z : Disks). g.C.Cluster.led c.args.cluster.now z tree parts) x (g.R.Rack.state c.blank.new.self) c.in-Some.disk (c.blank.ensures.blanked tells)
    (g.met.C.Cluster.blanks c.args.cluster.now x tree parts c.args.who c.in-Some.disk led (sym c.refusal.ensures ∙ c.in-None.is) (sym c.disk_of.ensures ∙ c.in-Some.is))
