use Rattle.std.proofs.Common.{◌≡◌, ◌+◌, ◌*◌, ℕ, arith, subst}
use Rattle.bx_audit_slots.specs.UsedSlots.{AreUsedBelow}
use Rattle.bx_audit_slots.proofs.InUse.{area_done}
use Rattle.bx_audit_slots.proofs.slots.put_area.Goals as goal

none_more : (n : ℕ) → n ≡ n + 0
none_more n = omega arith

pub loop-slot-init : goal.loop-slot-init
loop-slot-init c = record { done = λ areas truth there spells are. subst (λ (n : ℕ). AreUsedBelow areas truth n c.args.used.now.items) (none_more (1024 * c.args.area)) are }

pub loop-slot-preserved : goal.loop-slot-preserved
loop-slot-preserved c = record { done = λ areas truth there spells are. c.in_ok-put_slot.ensures.ok areas truth there spells (c.loop-slot.invariant.done areas truth there spells are) }

pub returns-clause-ok : goal.returns-clause-ok
returns-clause-ok c = λ areas truth there spells are.
    let last : c.loop-slot.slot ≡ 960 = omega (arith, c.loop-slot-test.false, c.loop-slot.auto.slot-end) in
    area_done areas truth c.args.area c.loop-slot.used.items
    (subst (λ (n : ℕ). AreUsedBelow areas truth (1024 * c.args.area + n) c.loop-slot.used.items) last (c.loop-slot.invariant.done areas truth there spells are))
