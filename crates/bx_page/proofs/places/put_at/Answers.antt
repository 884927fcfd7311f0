use Rattle.std.proofs.Common.{ap, ◌∙◌, subst}
use Rattle.bx_page.specs.declared.entry.Entry.{Entry}
use Rattle.bx_page.specs.Places.{IsPlace}
use Rattle.bx_page.proofs.Edits.{there_is}
use Rattle.bx_page.proofs.places.put_at.Goals as goal

pub returns-in_ok-value-in-Ok-clause-ok : goal.returns-in_ok-value-in-Ok-clause-ok
returns-in_ok-value-in-Ok-clause-ok c =
    let es = c.args.entries.now.items in
    let key = c.args.key.now in
    let at = subst (IsPlace es key) c.in-Ok.is c.requires in
    let e : Entry = record { key = c.index_mut.result.now.key; value = c.in_ok-value-in-Ok.value } in
    there_is es key c.args.value.now c.in-Ok.place e at (ap (λ (x : Entry). x.key) c.index_mut.ensures.value ∙ at.here _) c.in_ok-value-in-Ok.ensures
