use Rattle.std.proofs.Common.{refl, ap}
use Rattle.bx_disk.specs.Disks.{Disks}
use Rattle.bx_memory_rack.specs.Laws.{time_goes_on}
use Rattle.bx_disk.specs.declared.entry.Entry.TheVariants.{Blanked}
use Rattle.bx_memory_rack.proofs.Racks.{after_more, memory_after_more}
use Rattle.bx_memory_rack.proofs.mem_rack.MemRackCrashRack.blank.Goals as goal

pub invariant_of-self-2 : goal.invariant_of-self-2
invariant_of-self-2 c =
    memory_after_more c.self.inside.first.items c.self.inside.entries c.blank_disk.new.entries c.self.inside.disks.items c.blank_disk.new.disks.items c.self.inside.by_disk.items
    (Blanked c.args.disk) c.self.invariant c.in_ok-blank_disk.ensures.ok (c.in_ok-blank_disk.ensures.kept _ c.self.invariant.kept) (c.blank_disk.ensures.room c.self.invariant.room) c.blank_disk.ensures.many

pub returns-clause-blanked : goal.returns-clause-blanked
returns-clause-blanked c = λ tells.
    rw (← c.self.view_is) (after_more c.self.inside.first.items c.self.inside.entries.items c.blank_disk.new.entries.items (Blanked c.args.disk) c.in_ok-blank_disk.ensures.ok)

pub returns-clause-time : goal.returns-clause-time
returns-clause-time c = λ tells. rw (← c.self.view_is) (time_goes_on _ _ _ refl c.in_ok-blank_disk.ensures.ok)

pub returns-clause-sizes : goal.returns-clause-sizes
returns-clause-sizes c =
    rw (← c.self.view_is) (ap (λ (d : Disks). d.sizes) (after_more c.self.inside.first.items c.self.inside.entries.items c.blank_disk.new.entries.items (Blanked c.args.disk) c.in_ok-blank_disk.ensures.ok))
