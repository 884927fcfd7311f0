use Rattle.std.proofs.Common.{refl, sym, subst}
use Rattle.std.specs.Prelude.{IsSome}
use Rattle.bx_creating.proofs.finding.no_entry.Goals as goal

pub returns-then-status-eq-NOENT-clause-list : goal.returns-then-status-eq-NOENT-clause-list
returns-then-status-eq-NOENT-clause-list g c = λ truth names has. ((rw c.in-Err-Status.field-0-is at c.in-Err-Status.ensures.list) truth names has).1

pub returns-in-Ok-clause-list : goal.returns-in-Ok-clause-list
returns-in-Ok-clause-list g c = λ truth names has. (refl, subst (λ o. IsSome o) (sym (c.in-Ok.ensures.list truth names has)) refl)

pub returns-else-status-eq-NOENT-clause-list : goal.returns-else-status-eq-NOENT-clause-list
returns-else-status-eq-NOENT-clause-list g c = λ truth names has. absurd (c.if-status-eq-NOENT.false ((rw c.in-Err-Status.field-0-is at c.in-Err-Status.ensures.list) truth names has).0)
