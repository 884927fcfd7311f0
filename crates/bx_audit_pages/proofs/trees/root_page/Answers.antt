use Rattle.std.proofs.Common.{◌≡◌, ℕ, [], ◌∷◌, None, Err, refl, sym, ap, subst, ◌∙◌}
use Rattle.std.proofs.lemmas.Result.{err_from_is_err_and}
use Rattle.bx_truth.specs.PageTrees.{Node, IsLevel}
use Rattle.bx_page.specs.Contents.{Contents}
use Rattle.bx_audit_pages.specs.Pages.{IsPlaced, LeadsTo}
use Rattle.bx_audit_pages.specs.Torn.{Root}
use Rattle.bx_audit_pages.proofs.Ends.{both_torn, if_torn}
use Rattle.bx_audit_pages.proofs.Descents.{root_page_at, root_placed}
use Rattle.bx_audit_pages.proofs.OnePage.{one_page_at}
use Rattle.bx_audit_pages.proofs.Walk.{last_walks, leads_one_way, level_of_walk}
use Rattle.bx_audit_pages.proofs.Leads.{alone_led}
use Rattle.bx_audit_pages.proofs.trees.root_page.Goals as goal

pub returns-in_err-page-clause-torn : goal.returns-in_err-page-clause-torn
returns-in_err-page-clause-torn g c = λ chunks shows.
    let p = err_from_is_err_and c.from_residual.result c.from_residual.ensures.1 in
    if_torn _ _ c.in_err-page.field-0.0 c.from_residual.result (p.1 ∙ ap Err p.2) (λ at found wanted never tree is. never is.top.page (root_page_at chunks c.args.root tree is)) (c.in_err-page.ensures.torn chunks shows)

pub returns-in_err-way_of-clause-torn : goal.returns-in_err-way_of-clause-torn
returns-in_err-way_of-clause-torn g c = λ chunks shows.
    let p = err_from_is_err_and c.from_residual-in_err-way_of.result c.from_residual-in_err-way_of.ensures.1 in
    if_torn _ _ c.in_err-way_of.field-0.0 c.from_residual-in_err-way_of.result (p.1 ∙ ap Err p.2) (λ at found wanted never tree is.
    let placed = root_placed chunks c.args.root c.in_ok-page.page tree is (c.in_ok-page.ensures.ok chunks shows) in
    never None (subst (λ (n : ℕ). IsPlaced n [] c.in_ok-page.page) (sym c.level-level.ensures) placed.0) placed.1) c.in_err-way_of.ensures.torn

pub returns-in-Some-clause-torn : goal.returns-in-Some-clause-torn
returns-in-Some-clause-torn g c = λ chunks shows.
    rw c.torn_at.ensures (λ tree is.
    let placed = root_placed chunks c.args.root c.in_ok-page.page tree is (c.in_ok-page.ensures.ok chunks shows) in
    leads_one_way c.in_ok-page.page c.in_ok-way_of.field-0 c.in-Some.field-0 c.in-Some.is c.in_ok-way_of.ensures.leads placed.1)

pub returns-clause-ok : goal.returns-clause-ok
returns-clause-ok g c = λ chunks shows.
    let page = c.in_ok-page.page in
    let node : Node = record { handle = c.args.root; begins = []; page = page } in
    let last = subst (LeadsTo page) c.in_default.is c.in_ok-way_of.ensures.leads in
    let walks = last_walks chunks c.level-level.result c.args.root [] page (c.in_ok-page.ensures.ok chunks shows) c.in_ok-way_of.ensures.placed last in
    let level = level_of_walk chunks shows.none c.level-level.result c.args.root (node ∷ []) walks in
    record { is = subst (IsLevel chunks c.level-level.result) (sym c.in_ok-pages.ensures) level.is; node = node; alone = c.in_ok-pages.ensures; root_is = refl }

pub returns-clause-led : goal.returns-clause-led
returns-clause-led g c = λ chunks.
    let node : Node = record { handle = c.args.root; begins = []; page = c.in_ok-page.page } in
    alone_led chunks c.args.root c.in_ok-pages.pages.items node c.in_ok-pages.ensures refl

pub returns-in_err-page-clause-wrong : goal.returns-in_err-page-clause-wrong
returns-in_err-page-clause-wrong g c = λ chunks shows.
    let p = err_from_is_err_and c.from_residual.result c.from_residual.ensures.1 in
    if_torn _ _ c.in_err-page.field-0.0 c.from_residual.result (p.1 ∙ ap Err p.2) (λ at found wanted both. Root (λ page is placed last. both.0 page is) both.1)
    (both_torn _ _ c.in_err-page.field-0.0 (c.in_err-page.ensures.torn chunks shows) c.in_err-page.ensures.names)

pub returns-in_err-way_of-clause-wrong : goal.returns-in_err-way_of-clause-wrong
returns-in_err-way_of-clause-wrong g c = λ chunks shows.
    let p = err_from_is_err_and c.from_residual-in_err-way_of.result c.from_residual-in_err-way_of.ensures.1 in
    if_torn _ _ c.in_err-way_of.field-0.0 c.from_residual-in_err-way_of.result (p.1 ∙ ap Err p.2) (λ at found wanted both. Root (λ page is placed last.
    let same : page ≡ c.in_ok-page.page = one_page_at chunks c.args.root page c.in_ok-page.page is (c.in_ok-page.ensures.ok chunks shows) in
    both.0 None (subst (λ (n : ℕ). IsPlaced n [] c.in_ok-page.page) (sym c.level-level.ensures) (subst (λ (p : Contents). IsPlaced p.level [] p) same placed))
    (subst (λ (p : Contents). LeadsTo p None) same last)) both.1)
    (both_torn _ _ c.in_err-way_of.field-0.0 c.in_err-way_of.ensures.torn c.in_err-way_of.ensures.names)

pub returns-in-Some-clause-wrong : goal.returns-in-Some-clause-wrong
returns-in-Some-clause-wrong g c = λ chunks shows.
    rw c.torn_at.ensures (Root (λ page is placed last.
    let same : page ≡ c.in_ok-page.page = one_page_at chunks c.args.root page c.in_ok-page.page is (c.in_ok-page.ensures.ok chunks shows) in
    leads_one_way c.in_ok-page.page c.in_ok-way_of.field-0 c.in-Some.field-0 c.in-Some.is c.in_ok-way_of.ensures.leads (subst (λ (p : Contents). LeadsTo p None) same last)) refl)
