use Rattle.std.proofs.Common.{◌≡◌, ◌+◌, ◌*◌, ℕ, sym, ap, subst, ◌∙◌}
use Rattle.bx_audit_slots.specs.declared.slots.UsedSlot.{UsedSlot}
use Rattle.bx_audit_slots.specs.UsedSlots.{AreUsedBelow, IsFreeMarked}
use Rattle.bx_audit_slots.proofs.InUse.{free_marked, pass_unused, push_used}
use Rattle.bx_places.specs.Handles.{number_of}
use Rattle.bx_audit_slots.proofs.slots.put_slot.Goals as goal

pub returns-then-dead-clause-torn : goal.returns-then-dead-clause-torn
returns-then-dead-clause-torn c = λ areas truth there spells.
    let number : 1024 * c.args.area + c.args.slot ≡ c.block.result = sym c.block.ensures in
    subst (λ (n : ℕ). IsFreeMarked areas truth n 0 c.number-then-dead.result) number
    (free_marked areas truth c.args.area c.args.slot c.args.slots.now there c.requires.slot spells c.number-then-dead.result (sym c.is_used.ensures ∙ c.if-is_used.false) (sym c.is_dead-dead.ensures ∙ c.if-dead.true)
    (c.number-then-dead.ensures ∙ ap (λ (n : ℕ). number_of (record { area = c.args.area; slot = c.args.slot; generation = n })) c.generation.ensures))

pub returns-in_ok-push-clause-ok : goal.returns-in_ok-push-clause-ok
returns-in_ok-push-clause-ok c = λ areas truth there spells are.
    let new : UsedSlot = record { handle = c.number.result; dead = c.is_dead-dead.result } in
    subst (AreUsedBelow areas truth (1024 * c.args.area + (c.args.slot + 1))) (sym c.in_ok-push.ensures.items)
    (push_used areas truth c.args.area c.args.slot c.args.slots.now there c.requires.slot spells c.args.used.now.items new (sym c.is_used.ensures ∙ c.if-is_used.true)
    (c.number.ensures ∙ ap (λ (n : ℕ). number_of (record { area = c.args.area; slot = c.args.slot; generation = n })) c.generation.ensures) c.is_dead-dead.ensures are)

pub returns-else-dead-clause-ok : goal.returns-else-dead-clause-ok
returns-else-dead-clause-ok c = λ areas truth there spells are.
    pass_unused areas truth c.args.area c.args.slot c.args.slots.now there c.requires.slot spells c.args.used.now.items (sym c.is_used.ensures ∙ c.if-is_used.false) (sym c.is_dead-dead.ensures ∙ c.if-dead.false) are
