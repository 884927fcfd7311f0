use Rattle.std.proofs.Common.{◌∙◌, refl, ap}
use Rattle.bx_disk.specs.Disks.{Disks}
use Rattle.bx_memory_rack.specs.Laws.{time_goes_on}
use Rattle.bx_disk.specs.declared.entry.Entry.TheVariants.{Crashed}
use Rattle.bx_memory_rack.proofs.Crashing.{crashed_sizes}
use Rattle.bx_memory_rack.proofs.Racks.{after_more, image_after_crash, memory_after_more}
use Rattle.bx_memory_rack.proofs.mem_rack.MemRackCrashRack.crash.Goals as goal

pub invariant_of-self-2 : goal.invariant_of-self-2
invariant_of-self-2 c =
    memory_after_more c.self.inside.first.items c.self.inside.entries c.crash_disk.new.entries c.self.inside.disks.items c.crash_disk.new.disks.items c.self.inside.by_disk.items
    (Crashed c.args.disk c.args.how) c.self.invariant c.in_ok-crash_disk.ensures.ok (c.in_ok-crash_disk.ensures.kept _ c.self.invariant.kept) (c.crash_disk.ensures.room c.self.invariant.room) c.crash_disk.ensures.many

pub returns-clause-crashed : goal.returns-clause-crashed
returns-clause-crashed c = λ tells.
    rw (← c.self.view_is) (after_more c.self.inside.first.items c.self.inside.entries.items c.crash_disk.new.entries.items (Crashed c.args.disk c.args.how) c.in_ok-crash_disk.ensures.ok)

pub returns-clause-time : goal.returns-clause-time
returns-clause-time c = λ tells. rw (← c.self.view_is) (time_goes_on _ _ _ refl c.in_ok-crash_disk.ensures.ok)

pub returns-clause-sizes : goal.returns-clause-sizes
returns-clause-sizes c =
    rw (← c.self.view_is) (ap (λ (d : Disks). d.sizes) (after_more c.self.inside.first.items c.self.inside.entries.items c.crash_disk.new.entries.items (Crashed c.args.disk c.args.how) c.in_ok-crash_disk.ensures.ok)
    ∙ crashed_sizes _ c.args.disk c.args.how)

pub returns-clause-image : goal.returns-clause-image
returns-clause-image c = λ tells.
    rw (← c.self.view_is) (image_after_crash c.self.inside.first.items c.self.inside.entries.items c.crash_disk.new.entries.items c.args.disk c.args.how c.in_ok-crash_disk.ensures.ok)
