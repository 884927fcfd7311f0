use Rattle.std.proofs.Common.{ap, ◌∙◌, Err}
use Rattle.std.proofs.lemmas.Result.{err_from_is_err_and}
use Rattle.bx_audit_pages.proofs.Ends.{if_torn}
use Rattle.bx_audit_pages.proofs.OnePage.{no_page, no_page_in}
use Rattle.bx_homes.proofs.Sectors.{of_some, of_none}
use Rattle.bx_audit_pages.proofs.pages.page_at.Goals as goal

pub returns-in_err-block-clause-torn : goal.returns-in_err-block-clause-torn
returns-in_err-block-clause-torn g c = λ chunks shows.
    let p = err_from_is_err_and c.from_residual.result c.from_residual.ensures.1 in
    if_torn _ _ c.in_err-block.field-0.0 c.from_residual.result (p.1 ∙ ap Err p.2) (λ at found wanted none. no_page chunks c.args.handle none) (c.in_err-block.ensures.torn chunks shows)

pub returns-in-None-clause-torn : goal.returns-in-None-clause-torn
returns-in-None-clause-torn g c = λ chunks shows.
    rw c.torn_at.ensures (no_page_in chunks c.args.handle c.in_ok-block.block (c.in_ok-block.ensures.ok chunks shows) (of_none c.in_ok-page_in.field-0 c.in-None.is c.in_ok-page_in.ensures.none))

pub returns-clause-ok : goal.returns-clause-ok
returns-clause-ok g c = λ chunks shows. record {
  block = c.in_ok-block.block;
  chunk = c.in_ok-block.ensures.ok chunks shows;
  has = of_some _ c.in_ok-page_in.field-0 c.in-Some.page c.in-Some.is c.in_ok-page_in.ensures.some;
}
