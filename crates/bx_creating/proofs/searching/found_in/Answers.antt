use Rattle.bx_creating.proofs.searching.found_in.Goals as goal

pub returns-in-Ok-clause-list : goal.returns-in-Ok-clause-list
returns-in-Ok-clause-list g c = λ truth names has. record { number = c.in-Ok.entry.0; is = c.in-Ok.ensures.list truth names has }

pub returns-then-status-eq-NOENT-clause-list : goal.returns-then-status-eq-NOENT-clause-list
returns-then-status-eq-NOENT-clause-list g c = λ truth names has. ((rw c.in-Err-Status.field-0-is at c.in-Err-Status.ensures.list) truth names has).1

pub returns-else-status-eq-NOENT-clause-list : goal.returns-else-status-eq-NOENT-clause-list
returns-else-status-eq-NOENT-clause-list g c = λ truth names has. c.if-status-eq-NOENT.false ((rw c.in-Err-Status.field-0-is at c.in-Err-Status.ensures.list) truth names has).0
