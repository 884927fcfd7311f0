use Rattle.std.proofs.Common.{◌≡◌, not, false, refl, ap, ◌∙◌, unwrap_or, arith}
use Rattle.bx_rows.specs.Words.{is_taken, slots}
use Rattle.bx_rows.proofs.Loops.{find_past, slot_here}
use Rattle.bx_rows.proofs.rows.free_slot.Goals as goal

pub loop-slot-preserved : goal.loop-slot-preserved
loop-slot-preserved c =
    let taken : not (is_taken c.args.rows.now c.loop-slot.slot) ≡ false = rw (← c.has_slot.ensures, c.if-not-has_slot.false) refl in
    c.loop-slot.invariant ∙ ap (λ o. unwrap_or o 8) (find_past (λ slot. not (is_taken c.args.rows.now slot)) slots c.loop-slot.slot c.loop-slot.slot (slot_here c.loop-slot.slot (omega arith)) taken)
