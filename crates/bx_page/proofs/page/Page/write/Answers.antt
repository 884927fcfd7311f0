use Rattle.std.proofs.Common.{arith, ◌∙◌}
use Rattle.bx_page.specs.View.{contents_of}
use Rattle.bx_page.proofs.Written.{count-le, all_written, ended}
use Rattle.bx_page.proofs.page.Page.write.Goals as goal

pub overflow_cast-len : goal.overflow_cast-len
overflow_cast-len c = omega (arith, c.self.invariant.room, count-le c.self.inside.entries.items)

pub returns : goal.returns
returns c =
    let p = contents_of c.self.inside in
    let all = all_written p _ _ _ _ _ _ _ _ _ _ _ _ _ (c.len.ensures ∙ c.self.inside.entries.ok.0) c.deref.ensures.value c.put_u16-at.ensures c.put_u16-at-2.ensures c.put_u64-at.ensures c.put_high-at.ensures c.put_entries-at.ensures in
    rw (← c.self.view_is) (ended p c.args.payload.now c.put_entries-at.new.payload c.clear_from.new.into c.put_entries-at.result all c.requires c.clear_from.ensures)
