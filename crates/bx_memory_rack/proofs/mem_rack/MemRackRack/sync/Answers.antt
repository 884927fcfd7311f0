use Rattle.std.proofs.Common.{refl, ap, arith}
use Rattle.bx_disk.specs.Disks.{Disks}
use Rattle.bx_memory_rack.specs.Laws.{time_stays}
use Rattle.bx_memory_rack.proofs.Racks.{after_noted, memory_after_sync, time_after_sync}
use Rattle.bx_memory_rack.proofs.mem_rack.MemRackRack.sync.Goals as goal

pub returns-then-count_call-clause-later : goal.returns-then-count_call-clause-later
returns-then-count_call-clause-later c = record {
  all = rw (← c.self.view_is) (omega arith);
  each = rw (← c.self.view_is) c.count_fault.ensures.later;
}

pub invariant_of-self-2 : goal.invariant_of-self-2
invariant_of-self-2 c =
    let there = rw (← c.self.view_is) at c.requires.disk in
    let notes = c.sync_sectors.ensures.noted _ c.self.invariant.kept in
    memory_after_sync c.self.inside.first.items c.self.inside.entries c.sync_sectors.new.entries c.self.inside.disks.items c.sync_sectors.new.disks.items c.self.inside.by_disk.items
    c.args.disk c.self.invariant there notes (c.sync_sectors.ensures.kept _ c.self.invariant.kept) c.sync_sectors.ensures.room c.sync_sectors.ensures.many

pub returns-clause-synced : goal.returns-clause-synced
returns-clause-synced c = λ tells.
    let there = rw (← c.self.view_is) at c.requires.disk in
    let notes = c.sync_sectors.ensures.noted _ c.self.invariant.kept in
    rw (← c.self.view_is) (after_noted c.self.inside.first.items c.self.inside.entries.items c.sync_sectors.new.entries.items c.self.inside.disks.items _ c.args.disk c.self.invariant.kept there notes)

pub returns-clause-time : goal.returns-clause-time
returns-clause-time c = λ tells.
    let there = rw (← c.self.view_is) at c.requires.disk in
    let notes = c.sync_sectors.ensures.noted _ c.self.invariant.kept in
    rw (← c.self.view_is) (time_after_sync _ _ c.args.disk refl notes)

pub returns-clause-sizes : goal.returns-clause-sizes
returns-clause-sizes c =
    let there = rw (← c.self.view_is) at c.requires.disk in
    let notes = c.sync_sectors.ensures.noted _ c.self.invariant.kept in
    rw (← c.self.view_is) (ap (λ (d : Disks). d.sizes) (after_noted c.self.inside.first.items c.self.inside.entries.items c.sync_sectors.new.entries.items c.self.inside.disks.items _ c.args.disk c.self.invariant.kept there notes))

pub returns-then-count_call-clause-time : goal.returns-then-count_call-clause-time
returns-then-count_call-clause-time c = λ tells. rw (← c.self.view_is) (time_stays _ _ refl refl)

pub returns-clause-later : goal.returns-clause-later
returns-clause-later c = record { all = rw (← c.self.view_is) (omega arith); each = λ d. rw (← c.self.view_is) (omega arith) }

pub returns-clause-no_fault : goal.returns-clause-no_fault
returns-clause-no_fault c = record { all = rw (← c.self.view_is) refl; each = λ d. rw (← c.self.view_is) refl }
