use Rattle.std.proofs.Common.{ap, sym, drop}
use Rattle.bx_page.specs.Contents.{first}
use Rattle.bx_page_bytes.proofs.Steps.{entries_step, first_is_there, others_are_there}
use Rattle.bx_page_bytes.proofs.entries.Entries.next.Goals as goal

pub invariant_of-self : goal.invariant_of-self
invariant_of-self c = others_are_there c.self.inside.left c.self.inside.bytes.now c.in-Ok.after.now c.in-Ok.entry c.if-self-eq0.false c.self.invariant c.in-Ok.ensures.value

pub returns-in-Err-clause-next : goal.returns-in-Err-clause-next
returns-in-Err-clause-next c = absurd (first_is_there c.self.inside.left c.self.inside.bytes.now _ c.if-self-eq0.false c.self.invariant c.in-Err.ensures.value c.in-Err.ensures.cause)

pub returns-in-Err-clause-rest : goal.returns-in-Err-clause-rest
returns-in-Err-clause-rest c = absurd (first_is_there c.self.inside.left c.self.inside.bytes.now _ c.if-self-eq0.false c.self.invariant c.in-Err.ensures.value c.in-Err.ensures.cause)

pub returns-in-Ok-clause-next : goal.returns-in-Ok-clause-next
returns-in-Ok-clause-next c = rw (← c.self.view_is) (ap first (sym (entries_step c.self.inside.left c.self.inside.bytes.now c.in-Ok.after.now c.in-Ok.entry c.if-self-eq0.false c.in-Ok.ensures.value)))

pub returns-in-Ok-clause-rest : goal.returns-in-Ok-clause-rest
returns-in-Ok-clause-rest c = rw (← c.self.view_is) (ap (drop 1) (sym (entries_step c.self.inside.left c.self.inside.bytes.now c.in-Ok.after.now c.in-Ok.entry c.if-self-eq0.false c.in-Ok.ensures.value)))
