use Rattle.std.proofs.Common.{refl, ap, arith}
use Rattle.bx_disk.specs.Disks.{Disks}
use Rattle.bx_memory_rack.specs.Laws.{time_goes_on, time_stays}
use Rattle.bx_memory_rack.proofs.Racks.{after_shape, memory_after_shape}
use Rattle.bx_memory_rack.proofs.mem_rack.MemRackRack.shape.Goals as goal

pub returns-in_err-shape_disks-clause-time : goal.returns-in_err-shape_disks-clause-time
returns-in_err-shape_disks-clause-time c = λ tells. rw (← c.self.view_is) (time_stays _ _ refl (c.in_err-shape_disks.ensures.err refl).0)

pub invariant_of-self-2 : goal.invariant_of-self-2
invariant_of-self-2 c =
    memory_after_shape c.self.inside.first.items c.self.inside.entries c.shape_disks.new.entries c.shape_disks.new.disks.items c.shape_disks.new.by_disk.items c.args.sizes.now
    c.in_ok-shape_disks.ensures.ok c.in_ok-shape_disks.ensures.kept c.in_ok-shape_disks.ensures.owed c.in_ok-shape_disks.ensures.fits c.in_ok-shape_disks.ensures.long c.requires

pub returns-clause-shaped : goal.returns-clause-shaped
returns-clause-shaped c = λ tells. after_shape c.self.inside.first.items c.self.inside.entries.items c.shape_disks.new.entries.items c.args.sizes.now c.in_ok-shape_disks.ensures.ok

pub returns-clause-sizes : goal.returns-clause-sizes
returns-clause-sizes c =
    ap (λ (d : Disks). d.sizes) (after_shape c.self.inside.first.items c.self.inside.entries.items c.shape_disks.new.entries.items c.args.sizes.now c.in_ok-shape_disks.ensures.ok)

pub returns-clause-time : goal.returns-clause-time
returns-clause-time c = λ tells. rw (← c.self.view_is) (time_goes_on _ _ _ refl c.in_ok-shape_disks.ensures.ok)

pub returns-then-count_call-clause-time : goal.returns-then-count_call-clause-time
returns-then-count_call-clause-time c = λ tells. rw (← c.self.view_is) (time_stays _ _ refl refl)

pub returns-in_err-shape_disks-clause-alone : goal.returns-in_err-shape_disks-clause-alone
returns-in_err-shape_disks-clause-alone c = λ d. rw (← c.self.view_is) (c.shape_disks.ensures.counts d)

pub returns-in_err-shape_disks-clause-counts : goal.returns-in_err-shape_disks-clause-counts
returns-in_err-shape_disks-clause-counts c = λ d. rw (← c.self.view_is) (c.shape_disks.ensures.counts d)

pub returns-in_err-shape_disks-clause-later : goal.returns-in_err-shape_disks-clause-later
returns-in_err-shape_disks-clause-later c = record {
  all = rw (← c.self.view_is) (omega arith);
  each = λ d. rw (← c.self.view_is) (let same = c.shape_disks.ensures.counts d in omega arith);
}

pub returns-in_err-shape_disks-clause-memory_counts : goal.returns-in_err-shape_disks-clause-memory_counts
returns-in_err-shape_disks-clause-memory_counts c = λ is. record {
  all = rw (← c.self.view_is) refl;
  each = λ d. rw (← c.self.view_is) (c.shape_disks.ensures.counts d);
}

pub returns-clause-alone : goal.returns-clause-alone
returns-clause-alone c = λ d. rw (← c.self.view_is) (c.shape_disks.ensures.counts d)

pub returns-clause-counts : goal.returns-clause-counts
returns-clause-counts c = λ d. rw (← c.self.view_is) (c.shape_disks.ensures.counts d)

pub returns-clause-later : goal.returns-clause-later
returns-clause-later c = record {
  all = rw (← c.self.view_is) (omega arith);
  each = λ d. rw (← c.self.view_is) (let same = c.shape_disks.ensures.counts d in omega arith);
}

pub returns-clause-no_fault : goal.returns-clause-no_fault
returns-clause-no_fault c = record {
  all = rw (← c.self.view_is) refl;
  each = λ d. rw (← c.self.view_is) (c.shape_disks.ensures.counts d);
}
