use Rattle.std.proofs.Common.{◌≡◌, ap, ◌∙◌, Err, subst}
use Rattle.std.proofs.lemmas.Result.{err_from_is_err_and}
use Rattle.bx_page.specs.Contents.{Contents}
use Rattle.bx_audit_pages.specs.Pages.{IsPlaced, LeadsTo}
use Rattle.bx_audit_pages.proofs.Ends.{if_torn}
use Rattle.bx_audit_pages.proofs.OnePage.{one_page_at}
use Rattle.bx_audit_pages.proofs.levels.page_of.Goals as goal

pub returns-in_err-page-clause-torn : goal.returns-in_err-page-clause-torn
returns-in_err-page-clause-torn g c = λ chunks shows.
    let p = err_from_is_err_and c.from_residual.result c.from_residual.ensures.1 in
    if_torn _ _ c.in_err-page.field-0.0 c.from_residual.result (p.1 ∙ ap Err p.2) (λ at found wanted never page next is placed leads. never page is) (c.in_err-page.ensures.torn chunks shows)

pub returns-in_err-next-clause-torn : goal.returns-in_err-next-clause-torn
returns-in_err-next-clause-torn g c = λ chunks shows.
    let p = err_from_is_err_and c.from_residual-in_err-next.result c.from_residual-in_err-next.ensures.1 in
    if_torn _ _ c.in_err-next.field-0.0 c.from_residual-in_err-next.result (p.1 ∙ ap Err p.2) (λ at found wanted never page next is placed leads.
    let same : page ≡ c.in_ok-page.page = one_page_at chunks c.args.handle page c.in_ok-page.page is (c.in_ok-page.ensures.ok chunks shows) in
    never next (subst (IsPlaced c.args.level c.args.begins.now) same placed) (subst (λ (p : Contents). LeadsTo p next) same leads)) c.in_err-next.ensures.torn
