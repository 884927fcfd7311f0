use Rattle.std.proofs.Common.{refl, ap, subst, ◌∙◌}
use Rattle.bx_page.specs.Contents.{Contents}
use Rattle.bx_page.specs.Places.{StandsAt}
use Rattle.bx_page.specs.View.{contents_of}
use Rattle.bx_page.proofs.Edits.{removed_is, without_page, value_there}
use Rattle.bx_page.proofs.page.Page.take.Goals as goal

pub invariant_of-self : goal.invariant_of-self
invariant_of-self c =
    let key = c.args.key.now in
    let at = subst (λ es. StandsAt es key c.in-Ok.place) c.deref.ensures.value c.in-Ok.ensures in
    rw (c.remove-entry.ensures.items, removed_is _ key _ at) (without_page (contents_of c.self.inside) key _ c.self.invariant at)

pub returns-in-Ok-clause-found : goal.returns-in-Ok-clause-found
returns-in-Ok-clause-found c =
    let key = c.args.key.now in
    let at = subst (λ es. StandsAt es key c.in-Ok.place) (c.deref.ensures.value ∙ ap (λ (p : Contents). p.entries) c.self.view_is) c.in-Ok.ensures in
    (λ _. value_there _ key _ at, λ _. refl)
