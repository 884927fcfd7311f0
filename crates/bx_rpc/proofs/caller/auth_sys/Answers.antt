use Rattle.std.proofs.Common.{◌≡◌, take, refl, ◌∙◌, rules, arith}
use Rattle.std.proofs.lemmas.Grind.{common_steps}
use Rattle.std.proofs.lemmas.List.{take_all}
use Rattle.bx_rpc.proofs.caller.auth_sys.Goals as goal

pub returns-in_default-clause-none : goal.returns-in_default-clause-none
returns-in_default-clause-none c = λ caller is. c.in_default.ensures.none is.0 is.2

pub returns-clause-some : goal.returns-clause-some
returns-clause-some c =
    let some = c.in-Some.ensures.some in
    let all : c.loop-group.gids ≡ take c.in-Some.count c.parts.new.groups = c.loop-group.invariant ∙ take_all _ _ c.loop-group-test.false in
    ((some.0, (some.1, (c.parts.new.ids, take c.in-Some.count c.parts.new.groups))), rw all refl, some.2)

pub loop-group-preserved : goal.loop-group-preserved
loop-group-preserved c = grind (arith, common_steps)

pub parts-requires-clause-sixteen : goal.parts-requires-clause-sixteen
parts-requires-clause-sixteen c = search rules
