use Rattle.std.proofs.Common.{refl, sym, arith, length}
use Rattle.std.proofs.lemmas.Option.{slice_get_read}
use Rattle.bx_memory_rack.proofs.mem_rack.MemRackRack.sectors.Goals as goal

pub returns : goal.returns
returns c =
    let there = rw (← c.self.view_is) at c.requires in
    let many = c.self.invariant.kept.many in
    let kept = c.self.invariant.kept.each c.args.disk c.index.result.now (slice_get_read c.self.inside.disks.items (length c.self.inside.disks.items) c.args.disk c.index.result.now refl (omega arith) c.index.ensures) in
    rw (← c.self.view_is) (sym kept.size)
