use Rattle.std.proofs.Common.{◌≤◌, ◌≡◌, List, length, arith, Bool, ap, rules, sym, subst, ◌∙◌}
use Rattle.std.proofs.lemmas.Fn.{filter_same}
use Rattle.bx_base.specs.declared.names.Actor.{Actor}
use Rattle.bx_world_events.specs.Causes.{IsThere}
use Rattle.bx_driver.specs.Machines.{AreInTurn, IsDown}
use Rattle.bx_driver.proofs.InTurn.{fewer_passed, passed_in_turn}
use Rattle.bx_driver.proofs.machines.machines_down.Goals as goal

pub returns-clause-turn : goal.returns-clause-turn
returns-clause-turn g c =
    let seen = g.C.Shows.seen c.args.cluster.now in
    let test : Actor → Bool = λ who. (g.C.Shows.seen c.args.cluster.now).down who in
    let is = c.from.ensures ∙ filter_same _ test _ (λ x b f h. search rules) _ _ c.retain.ensures.filtered in
    subst (AreInTurn (IsDown seen)) (sym is) (passed_in_turn (IsThere seen) (IsDown seen) test c.in_ok-all.all.items (λ who there is. (there, is)) (λ who down. down) c.in_ok-all.ensures.turn)

pub returns-clause-few : goal.returns-clause-few
returns-clause-few g c =
    let test : Actor → Bool = λ who. (g.C.Shows.seen c.args.cluster.now).down who in
    let is = c.from.ensures ∙ filter_same _ test _ (λ x b f h. search rules) _ _ c.retain.ensures.filtered in
    let same = ap (λ (l : List Actor). length l) is in
    let less = fewer_passed test c.in_ok-all.all.items in
    let all = c.in_ok-all.ensures.few in
    omega (arith, same, less, all)
