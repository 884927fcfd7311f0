use Rattle.std.proofs.Common.{refl, ap, arith}
use Rattle.bx_disk.specs.Disks.{Disks, shaped}
use Rattle.bx_disk.specs.Past.{after_entries}
use Rattle.bx_memory_rack.specs.Laws.{time_goes_on, time_stays}
use Rattle.bx_memory_rack.proofs.Racks.{Fits-below-256, small_size, fits_so, after_write, memory_after_write}
use Rattle.bx_memory_rack.proofs.mem_rack.MemRackRack.write.Goals as goal

pub returns-then-count_call-clause-later : goal.returns-then-count_call-clause-later
returns-then-count_call-clause-later c = record {
  all = rw (← c.self.view_is) (omega arith);
  each = rw (← c.self.view_is) c.count_fault.ensures.later;
}

pub write_sectors-requires-clause-range : goal.write_sectors-requires-clause-range
write_sectors-requires-clause-range c =
    let there = rw (← c.self.view_is) at c.requires.disk in
    let small = small_size _ _ _ c.args.disk c.self.invariant.kept there in
    let range = rw (← c.self.view_is) at c.requires.range in
    omega arith

pub invariant_of-self-2 : goal.invariant_of-self-2
invariant_of-self-2 c =
    let range = rw (← c.self.view_is) at c.requires.range in
    let fit = fits_so (after_entries (shaped c.self.inside.first.items) c.self.inside.entries.items).sizes c.args.disk c.args.sector c.args.bytes.now c.requires.whole range (λ i. Fits-below-256 _ (c.type_inv.bytes i)) in
    memory_after_write c.self.inside.first.items c.self.inside.entries c.write_sectors.new.entries c.self.inside.disks.items c.write_sectors.new.disks.items c.self.inside.by_disk.items
    c.args.disk c.args.sector c.args.bytes.now c.self.invariant c.in_ok-write_sectors.ensures.ok fit
    (c.in_ok-write_sectors.ensures.kept _ c.self.invariant.kept range) (c.write_sectors.ensures.room c.self.invariant.room) c.write_sectors.ensures.many

pub returns-clause-written : goal.returns-clause-written
returns-clause-written c = λ tells.
    let range = rw (← c.self.view_is) at c.requires.range in
    let fit = fits_so (after_entries (shaped c.self.inside.first.items) c.self.inside.entries.items).sizes c.args.disk c.args.sector c.args.bytes.now c.requires.whole range (λ i. Fits-below-256 _ (c.type_inv.bytes i)) in
    rw (← c.self.view_is) (after_write c.self.inside.first.items c.self.inside.entries.items c.write_sectors.new.entries.items c.args.disk c.args.sector c.args.bytes.now
    c.in_ok-write_sectors.ensures.ok fit)

pub returns-clause-time : goal.returns-clause-time
returns-clause-time c = λ tells. rw (← c.self.view_is) (time_goes_on _ _ _ refl c.in_ok-write_sectors.ensures.ok)

pub returns-clause-sizes : goal.returns-clause-sizes
returns-clause-sizes c =
    let range = rw (← c.self.view_is) at c.requires.range in
    let fit = fits_so (after_entries (shaped c.self.inside.first.items) c.self.inside.entries.items).sizes c.args.disk c.args.sector c.args.bytes.now c.requires.whole range (λ i. Fits-below-256 _ (c.type_inv.bytes i)) in
    rw (← c.self.view_is) (ap (λ (d : Disks). d.sizes) (after_write c.self.inside.first.items c.self.inside.entries.items c.write_sectors.new.entries.items c.args.disk c.args.sector c.args.bytes.now
    c.in_ok-write_sectors.ensures.ok fit))

pub returns-then-count_call-clause-time : goal.returns-then-count_call-clause-time
returns-then-count_call-clause-time c = λ tells. rw (← c.self.view_is) (time_stays _ _ refl refl)

pub returns-in_err-write_sectors-clause-later : goal.returns-in_err-write_sectors-clause-later
returns-in_err-write_sectors-clause-later c = record { all = rw (← c.self.view_is) (omega arith); each = λ d. rw (← c.self.view_is) (omega arith) }

pub returns-in_err-write_sectors-clause-memory_counts : goal.returns-in_err-write_sectors-clause-memory_counts
returns-in_err-write_sectors-clause-memory_counts c = λ is. record { all = rw (← c.self.view_is) refl; each = λ d. rw (← c.self.view_is) refl }

pub returns-clause-later : goal.returns-clause-later
returns-clause-later c = record { all = rw (← c.self.view_is) (omega arith); each = λ d. rw (← c.self.view_is) (omega arith) }

pub returns-clause-no_fault : goal.returns-clause-no_fault
returns-clause-no_fault c = record { all = rw (← c.self.view_is) refl; each = λ d. rw (← c.self.view_is) refl }
