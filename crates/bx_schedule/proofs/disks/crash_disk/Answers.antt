use Rattle.std.proofs.Common.{sym, ◌∙◌}
use Rattle.bx_disk.specs.Disks.{Disks}
use Rattle.bx_schedule.proofs.Crashing.{led_crashed}
use Rattle.bx_schedule.proofs.disks.crash_disk.Goals as goal

pub returns-in-Some-clause-led : goal.returns-in-Some-clause-led
returns-in-Some-clause-led g c = λ tree parts tells led.
    let x = g.R.Rack.state c.args.rack.now in
    let y = g.R.Rack.state c.crash.new.self in
    led_crashed c.crash.result (λ (z : Disks). g.C.Cluster.led c.args.cluster.now z tree parts) x y c.in-Some.disk c.args.noise (c.crash.ensures.crashed tells) (c.crash.ensures.image tells)
    (λ crashes. g.met.C.Cluster.crashes c.args.cluster.now x y tree parts c.args.who c.in-Some.disk led c.requires.there c.requires.down (sym c.disk_of.ensures ∙ c.in-Some.is) c.crash.ensures.sizes crashes)
