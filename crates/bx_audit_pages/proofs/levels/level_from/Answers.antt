use Rattle.std.proofs.Common.{ℕ, ◌≤◌, length, get_or, List, [], ◌∷◌, ◌++◌, Some, Err, sym, ap, subst, ◌∙◌, arith}
use Rattle.std.proofs.lemmas.Result.{err_from_is_err_and}
use Rattle.std.proofs.lemmas.List.{append_assoc}
use Rattle.std.proofs.lemmas.List.Elements.{All-push}
use Rattle.std.proofs.lemmas.List.Quantifiers.{all_pairs_push}
use Rattle.bx_homes.proofs.Sectors.{of_some}
use Rattle.std.specs.Prelude.{All}
use Rattle.bx_page.specs.Keys.{IsBelow}
use Rattle.bx_page.proofs.Order.{below_trans}
use Rattle.bx_truth.specs.PageTrees.{Node}
use Rattle.bx_audit_pages.specs.Leading.{AreLedTo, IsLedTo}
use Rattle.bx_audit_pages.specs.Pages.{BeginningsRise, IsPageAt, IsPlaced, LeadsTo, IsLevelFrom}
use Rattle.bx_audit_pages.specs.Torn.{ComesTo, Next}
use Rattle.bx_audit_pages.proofs.Ends.{both_torn, if_torn}
use Rattle.bx_audit_pages.proofs.Walk.{Walks, first_of, rest_of, last_walks, next_walks, level_of_walk, walk_of_level}
use Rattle.bx_audit_pages.proofs.Leads.{push_led, right_led}
use Rattle.bx_audit_pages.proofs.levels.level_from.Goals as goal

pub returns-in_err-page-clause-torn : goal.returns-in_err-page-clause-torn
returns-in_err-page-clause-torn g c = λ chunks shows.
    let p = err_from_is_err_and c.from_residual-in_err-page.result c.from_residual-in_err-page.ensures.1 in
    if_torn _ _ c.in_err-page.field-0.0 c.from_residual-in_err-page.result (p.1 ∙ ap Err p.2) (λ at found wanted never nodes is.
    let rest = c.loop-begins.invariant.any chunks shows nodes (walk_of_level chunks shows.none c.args.level c.args.first nodes is) in
    let x = first_of chunks c.args.level c.loop-begins.handle c.loop-begins.begins rest.0 rest.1 in
    never x.0 x.1 x.2 (subst (λ (k : List ℕ). IsPlaced c.args.level k x.0) (sym c.bytes.ensures) x.3) x.4) (c.in_err-page.ensures.torn chunks (c.loop-begins.invariant.shows chunks shows))

pub returns-in_default-clause-ok : goal.returns-in_default-clause-ok
returns-in_default-clause-ok g c = λ chunks shows.
    let still = c.loop-begins.invariant.shows chunks shows in
    let page = c.in_ok-page.page in
    let placed = subst (λ (k : List ℕ). IsPlaced c.args.level k page) c.bytes.ensures c.in_ok-page.ensures.placed in
    let last = subst (LeadsTo page) c.in_default.is c.in_ok-page.ensures.leads in
    let node : Node = record { handle = c.loop-begins.handle; begins = c.loop-begins.begins; page = page } in
    let walks = c.loop-begins.invariant.read chunks shows (node ∷ [])
    (last_walks chunks c.args.level c.loop-begins.handle c.loop-begins.begins page (c.in_ok-page.ensures.at chunks still) placed last) in
    subst (IsLevelFrom chunks c.args.level c.args.first) (sym c.in_ok-push.ensures.items) (level_of_walk chunks shows.none c.args.level c.args.first (c.loop-begins.pages.items ++ node ∷ []) walks)

pub loop-begins-preserved : goal.loop-begins-preserved
loop-begins-preserved g c =
    let page = c.in_ok-page.page in
    let placed = subst (λ (k : List ℕ). IsPlaced c.args.level k page) c.bytes.ensures c.in_ok-page.ensures.placed in
    let leads : LeadsTo page (Some (c.in-Some.right, c.in-Some.high)) = subst (LeadsTo page) c.in-Some.is c.in_ok-page.ensures.leads in
    let node : Node = record { handle = c.loop-begins.handle; begins = c.loop-begins.begins; page = page } in
    let old = c.loop-begins.pages.items in
    let next : ℕ × List ℕ = (c.in-Some.right, c.in-Some.high) in
    let above : IsBelow c.loop-begins.begins c.in-Some.high =
    subst (λ (k : List ℕ). IsBelow k c.in-Some.high) c.bytes.ensures (of_some (λ (n : ℕ × List ℕ). IsBelow c.bytes.result.now n.1) c.in_ok-page.next next c.in-Some.is c.in_ok-page.ensures.above) in
    record {
      blocks = grind arith;
      shows = λ chunks shows. c.in_ok-page.ensures.shows chunks (c.loop-begins.invariant.shows chunks shows);
      short = of_some (λ (n : ℕ × List ℕ). length n.1 ≤ 256) c.in_ok-page.next next c.in-Some.is c.in_ok-page.ensures.short;
      rise = subst BeginningsRise (sym c.in_ok-push.ensures.items) (all_pairs_push (λ (a b : Node). IsBelow a.begins b.begins) old node c.loop-begins.invariant.rise c.loop-begins.invariant.below);
      below = subst (All (λ (n : Node). IsBelow n.begins c.in-Some.high)) (sym c.in_ok-push.ensures.items) (All-push (λ (n : Node). IsBelow n.begins c.in-Some.high) old node (λ k d less. below_trans (get_or old k d).begins c.loop-begins.begins c.in-Some.high (c.loop-begins.invariant.below k d less) above) above);
      here = λ chunks shows. right_led chunks c.args.first c.loop-begins.handle c.in-Some.right c.in-Some.high page (c.loop-begins.invariant.here chunks shows)
          (c.in_ok-page.ensures.at chunks (c.loop-begins.invariant.shows chunks shows)) leads;
      met = λ chunks shows. Next c.loop-begins.begins c.in-Some.high c.loop-begins.handle c.in-Some.right page (c.loop-begins.invariant.met chunks shows)
          (c.in_ok-page.ensures.at chunks (c.loop-begins.invariant.shows chunks shows)) placed leads;
      led = λ chunks shows. subst (AreLedTo chunks c.args.first) (sym c.in_ok-push.ensures.items) (push_led chunks c.args.first old node (c.loop-begins.invariant.led chunks shows) (c.loop-begins.invariant.here chunks shows));
      read = λ chunks shows rest walks.
          subst (Walks chunks c.args.level c.args.first []) (sym (ap (λ (l : List Node). l ++ rest) c.in_ok-push.ensures.items ∙ append_assoc old (node ∷ []) rest)) (c.loop-begins.invariant.read chunks shows (node ∷ rest)
          (next_walks chunks c.args.level c.loop-begins.handle c.loop-begins.begins page (c.in_ok-page.ensures.at chunks (c.loop-begins.invariant.shows chunks shows)) placed c.in-Some.right c.in-Some.high rest leads walks));
      any = λ chunks shows nodes walks.
          let rest = c.loop-begins.invariant.any chunks shows nodes walks in
          rest_of chunks c.args.level c.loop-begins.handle c.loop-begins.begins page c.in-Some.right c.in-Some.high rest.0 (c.in_ok-page.ensures.at chunks (c.loop-begins.invariant.shows chunks shows)) leads rest.1;
    }

pub returns-in_err-page-clause-leads : goal.returns-in_err-page-clause-leads
returns-in_err-page-clause-leads g c = λ chunks shows.
    let p = err_from_is_err_and c.from_residual-in_err-page.result c.from_residual-in_err-page.ensures.1 in
    if_torn _ _ c.in_err-page.field-0.0 c.from_residual-in_err-page.result (p.1 ∙ ap Err p.2) (λ at found wanted names.
    subst (IsLedTo chunks c.args.first) (sym names) (c.loop-begins.invariant.here chunks shows)) c.in_err-page.ensures.names

pub returns-in_default-clause-led : goal.returns-in_default-clause-led
returns-in_default-clause-led g c = λ chunks shows.
    let node : Node = record { handle = c.loop-begins.handle; begins = c.loop-begins.begins; page = c.in_ok-page.page } in
    subst (AreLedTo chunks c.args.first) (sym c.in_ok-push.ensures.items) (push_led chunks c.args.first c.loop-begins.pages.items node (c.loop-begins.invariant.led chunks shows) (c.loop-begins.invariant.here chunks shows))

pub returns-in_err-page-clause-shows : goal.returns-in_err-page-clause-shows
returns-in_err-page-clause-shows g c = λ chunks shows. c.in_err-page.ensures.shows chunks (c.loop-begins.invariant.shows chunks shows)

pub returns-in_err-push-clause-shows : goal.returns-in_err-push-clause-shows
returns-in_err-push-clause-shows g c = λ chunks shows. c.in_ok-page.ensures.shows chunks (c.loop-begins.invariant.shows chunks shows)

pub returns-in_default-clause-shows : goal.returns-in_default-clause-shows
returns-in_default-clause-shows g c = λ chunks shows. c.in_ok-page.ensures.shows chunks (c.loop-begins.invariant.shows chunks shows)

pub returns-in_err-page-clause-wrong : goal.returns-in_err-page-clause-wrong
returns-in_err-page-clause-wrong g c = λ chunks shows.
    let p = err_from_is_err_and c.from_residual-in_err-page.result c.from_residual-in_err-page.ensures.1 in
    if_torn _ _ c.in_err-page.field-0.0 c.from_residual-in_err-page.result (p.1 ∙ ap Err p.2) (λ at found wanted both. record {
      begins = c.loop-begins.begins;
      met = subst (ComesTo chunks c.args.level c.args.first c.loop-begins.begins) (sym both.1) (c.loop-begins.invariant.met chunks shows);
      wrong = λ page next is placed leads.
          both.0 page next (subst (λ (n : ℕ). IsPageAt chunks n page) both.1 is) (subst (λ (k : List ℕ). IsPlaced c.args.level k page) (sym c.bytes.ensures) placed) leads;
    })
    (both_torn _ _ c.in_err-page.field-0.0 (c.in_err-page.ensures.torn chunks (c.loop-begins.invariant.shows chunks shows)) c.in_err-page.ensures.names)
