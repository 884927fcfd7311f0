use Rattle.std.proofs.Common.{◌∙◌, ◌+◌, refl, sym, arith, length}
use Rattle.std.proofs.lemmas.Option.{slice_get_read}
use Rattle.bx_memory_rack.specs.Laws.{time_stays}
use Rattle.bx_memory_rack.proofs.mem_rack.MemRackRack.read.Goals as goal

pub returns-then-count_call-clause-later : goal.returns-then-count_call-clause-later
returns-then-count_call-clause-later c = record {
  all = rw (← c.self.view_is) (omega arith);
  each = rw (← c.self.view_is) c.count_fault.ensures.later;
}

pub read_cells-requires : goal.read_cells-requires
read_cells-requires c =
    let there = rw (← c.self.view_is) at c.requires.disk in
    let many = c.self.invariant.kept.many in
    let kept = c.self.invariant.kept.each c.args.disk c.index.result.now (slice_get_read c.self.inside.disks.items (length c.self.inside.disks.items) c.args.disk c.index.result.now refl (omega arith) c.index.ensures) in
    let size = kept.size in
    let small = kept.small in
    let range = rw (← c.self.view_is) at c.requires.range in
    omega arith

pub returns-clause-bytes : goal.returns-clause-bytes
returns-clause-bytes c = λ tells i less.
    let there = rw (← c.self.view_is) at c.requires.disk in
    let many = c.self.invariant.kept.many in
    let kept = c.self.invariant.kept.each c.args.disk c.index.result.now (slice_get_read c.self.inside.disks.items (length c.self.inside.disks.items) c.args.disk c.index.result.now refl (omega arith) c.index.ensures) in
    let size = kept.size in
    let range = rw (← c.self.view_is) at c.requires.range in
    c.read_cells.ensures i less ∙ rw (← c.self.view_is) (sym (kept.reads (c.args.sector + i) (omega arith)))

pub returns-then-count_call-clause-time : goal.returns-then-count_call-clause-time
returns-then-count_call-clause-time c = λ tells. rw (← c.self.view_is) (time_stays _ _ refl refl)

pub returns-clause-time : goal.returns-clause-time
returns-clause-time c = λ tells. rw (← c.self.view_is) (time_stays _ _ refl refl)

pub returns-clause-later : goal.returns-clause-later
returns-clause-later c = record { all = rw (← c.self.view_is) (omega arith); each = λ d. rw (← c.self.view_is) (omega arith) }

pub returns-clause-no_fault : goal.returns-clause-no_fault
returns-clause-no_fault c = record { all = rw (← c.self.view_is) refl; each = λ d. rw (← c.self.view_is) refl }
