use Rattle.std.proofs.Common.{◌+◌, List, Err, sym, ap, subst, ◌∙◌}
use Rattle.std.proofs.lemmas.Result.{err_from_is_err_and}
use Rattle.bx_truth.specs.PageTrees.{Node, IsIn, IsInterior}
use Rattle.bx_audit_pages.proofs.Ends.{if_torn}
use Rattle.bx_audit_pages.proofs.Descents.{names_first, level_first, one_level_from}
use Rattle.bx_audit_pages.proofs.Leads.{all_led_on, first_led, led_on, level_some}
use Rattle.bx_audit_pages.proofs.Torn.{under_level}
use Rattle.bx_audit_pages.specs.Torn.{Along, Astray, Childless, IsAstray}
use Rattle.bx_audit_pages.proofs.trees.level_below.Goals as goal

pub returns-in_err-first-clause-torn : goal.returns-in_err-first-clause-torn
returns-in_err-first-clause-torn g c = λ chunks shows above.
    let p = err_from_is_err_and c.from_residual.result c.from_residual.ensures.1 in
    if_torn _ _ c.in_err-first.field-0.0 c.from_residual.result (p.1 ∙ ap Err p.2) (λ at found wanted never nodes lies.
    let first = names_first chunks c.args.level c.args.above.now nodes above lies in never first.0 first.1) c.in_err-first.ensures.torn

pub returns-in_err-pages-clause-torn : goal.returns-in_err-pages-clause-torn
returns-in_err-pages-clause-torn g c = λ chunks shows above.
    let p = err_from_is_err_and c.from_residual-in_err-pages.result c.from_residual-in_err-pages.ensures.1 in
    if_torn _ _ c.in_err-pages.field-0.0 c.from_residual-in_err-pages.result (p.1 ∙ ap Err p.2) (λ at found wanted never nodes lies.
    never nodes (level_first chunks c.args.level c.args.above.now nodes above lies c.in_ok-first.first c.in_ok-first.ensures.ok)) (c.in_err-pages.ensures.torn chunks shows)

pub returns-in_err-lead_down-clause-torn : goal.returns-in_err-lead_down-clause-torn
returns-in_err-lead_down-clause-torn g c = λ chunks shows above.
    let p = err_from_is_err_and c.from_residual-in_err-lead_down.result c.from_residual-in_err-lead_down.ensures.1 in
    if_torn _ _ c.in_err-lead_down.field-0.0 c.from_residual-in_err-lead_down.result (p.1 ∙ ap Err p.2) (λ at found wanted never nodes lies.
    let same = one_level_from chunks c.args.level shows.none c.in_ok-first.first nodes c.in_ok-pages.pages.items
    (level_first chunks c.args.level c.args.above.now nodes above lies c.in_ok-first.first c.in_ok-first.ensures.ok) (c.in_ok-pages.ensures.ok chunks shows) in
    never (subst (λ (l : List Node). (node : Node) → IsIn node c.args.above.now → IsInterior l node) (same ∙ sym c.deref.ensures.value) lies.interior)) c.in_err-lead_down.ensures.torn

pub returns-clause-ok : goal.returns-clause-ok
returns-clause-ok g c = λ chunks shows above. record { is = (c.in_ok-pages.ensures.ok chunks shows).is; interior = subst (λ (l : List Node). (node : Node) → IsIn node c.args.above.now → IsInterior l node) c.deref.ensures.value c.in_ok-lead_down.ensures.ok }

pub returns-clause-one : goal.returns-clause-one
returns-clause-one g c = λ chunks shows above nodes lies.
    one_level_from chunks c.args.level shows.none c.in_ok-first.first nodes c.in_ok-pages.pages.items
    (level_first chunks c.args.level c.args.above.now nodes above lies c.in_ok-first.first c.in_ok-first.ensures.ok) (c.in_ok-pages.ensures.ok chunks shows)

pub returns-in_err-first-clause-leads : goal.returns-in_err-first-clause-leads
returns-in_err-first-clause-leads g c = λ chunks root shows above led.
    let p = err_from_is_err_and c.from_residual.result c.from_residual.ensures.1 in
    if_torn _ _ c.in_err-first.field-0.0 c.from_residual.result (p.1 ∙ ap Err p.2) (λ at found wanted leads. leads)
    (c.in_err-first.ensures.led chunks root (level_some chunks (c.args.level + 1) c.args.above.now above) led)

pub returns-in_err-pages-clause-leads : goal.returns-in_err-pages-clause-leads
returns-in_err-pages-clause-leads g c = λ chunks root shows above led.
    let p = err_from_is_err_and c.from_residual-in_err-pages.result c.from_residual-in_err-pages.ensures.1 in
    if_torn _ _ c.in_err-pages.field-0.0 c.from_residual-in_err-pages.result (p.1 ∙ ap Err p.2) (λ at found wanted leads.
    led_on chunks root c.in_ok-first.first wanted (first_led chunks root (c.args.level + 1) c.in_ok-first.first c.args.above.now above led c.in_ok-first.ensures.ok) leads) (c.in_err-pages.ensures.leads chunks shows)

pub returns-in_err-lead_down-clause-leads : goal.returns-in_err-lead_down-clause-leads
returns-in_err-lead_down-clause-leads g c = λ chunks root shows above led.
    let p = err_from_is_err_and c.from_residual-in_err-lead_down.result c.from_residual-in_err-lead_down.ensures.1 in
    if_torn _ _ c.in_err-lead_down.field-0.0 c.from_residual-in_err-lead_down.result (p.1 ∙ ap Err p.2) (λ at found wanted leads. leads) (c.in_err-lead_down.ensures.led chunks root led)

pub returns-clause-led : goal.returns-clause-led
returns-clause-led g c = λ chunks root shows above led.
    all_led_on chunks root c.in_ok-first.first c.in_ok-pages.pages.items (first_led chunks root (c.args.level + 1) c.in_ok-first.first c.args.above.now above led c.in_ok-first.ensures.ok) (c.in_ok-pages.ensures.led chunks shows)

pub returns-in_err-first-clause-wrong : goal.returns-in_err-first-clause-wrong
returns-in_err-first-clause-wrong g c = λ chunks root shows under.
    let p = err_from_is_err_and c.from_residual.result c.from_residual.ensures.1 in
    if_torn _ _ c.in_err-first.field-0.0 c.from_residual.result (p.1 ∙ ap Err p.2) (λ at found wanted childless. Childless c.args.level c.args.above.now under childless)
    (c.in_err-first.ensures.childless (level_some chunks (c.args.level + 1) c.args.above.now (under_level chunks root (c.args.level + 1) c.args.above.now under)))

pub returns-in_err-pages-clause-wrong : goal.returns-in_err-pages-clause-wrong
returns-in_err-pages-clause-wrong g c = λ chunks root shows under.
    let p = err_from_is_err_and c.from_residual-in_err-pages.result c.from_residual-in_err-pages.ensures.1 in
    if_torn _ _ c.in_err-pages.field-0.0 c.from_residual-in_err-pages.result (p.1 ∙ ap Err p.2) (λ at found wanted torn.
    Along c.args.level c.in_ok-first.first c.args.above.now under c.in_ok-first.ensures.ok torn) (c.in_err-pages.ensures.wrong chunks shows)

pub returns-in_err-lead_down-clause-wrong : goal.returns-in_err-lead_down-clause-wrong
returns-in_err-lead_down-clause-wrong g c = λ chunks root shows under.
    let p = err_from_is_err_and c.from_residual-in_err-lead_down.result c.from_residual-in_err-lead_down.ensures.1 in
    if_torn _ _ c.in_err-lead_down.field-0.0 c.from_residual-in_err-lead_down.result (p.1 ∙ ap Err p.2) (λ at found wanted astray.
    Astray c.args.level c.in_ok-first.first c.args.above.now c.in_ok-pages.pages.items under c.in_ok-first.ensures.ok (c.in_ok-pages.ensures.ok chunks shows)
    (subst (λ (l : List Node). IsAstray c.args.above.now l wanted) c.deref.ensures.value astray)) c.in_err-lead_down.ensures.astray
