use Rattle.std.proofs.Common.{◌≡◌, ◌<◌, ◌∙◌, inl, inr, length, Some, sym, ap, subst, arith}
use Rattle.std.specs.Prelude.{slice_get}
use Rattle.std.proofs.lemmas.Option.{slice_get-get_or}
use Rattle.bx_base.specs.declared.names.Actor.TheVariants.{Node}
use Rattle.bx_desk.specs.Desks.{AtDesk}
use Rattle.bx_world_machines.specs.bx_node_calls.proofs.Found.{if_ok_with}
use Rattle.bx_world_machines.specs.bx_nodes.proofs.Machines.{if_ok_so}
use Rattle.bx_world.proofs.LedCalls.{arrives_led}
use Rattle.bx_world.specs.Calls.{Hears, Takes}
use Rattle.bx_world.proofs.world.World.call.Goals as goal

pub returns-in-New-clause-shows : goal.returns-in-New-clause-shows
returns-in-New-clause-shows g c = c.take.ensures.shows c.args.bytes

pub returns-in-New-clause-arrives : goal.returns-in-New-clause-arrives
returns-in-New-clause-arrives g c = λ x.
    let old = c.args.self.now in
    let ready = c.requires.ready.1 in
    let desk = c.index.result.now in
    let less : c.args.node < length old.desks.items = let up = ready.machines.are_ready.there (Node c.args.node) c.requires.up in let count = ready.desks in omega (arith, up, count) in
    let there : slice_get old.desks.items c.args.node ≡ Some desk = slice_get-get_or old.desks.items c.args.node desk less ∙ ap (λ (d : AtDesk). Some d) (sym c.index.ensures) in
    let heard = subst (λ h. Hears desk c.args.client c.args.bytes.now h) c.in-New.is c.in_ok-message.ensures in
    if_ok_so _ _ c.take.result
    (λ outcome takes. inl (desk, there, heard.1, subst (λ b. Takes g.G.Register g.O.Owners g.S.Store g.E.Engine c.args.reading c.args.node c.args.client b old c.take.new.self x outcome) heard.0 takes))
    (c.take.ensures.takes x)

pub returns-in-Again-clause-shows : goal.returns-in-Again-clause-shows
returns-in-Again-clause-shows g c = c.send_again.ensures.shows c.args.bytes

pub returns-in-Again-clause-arrives : goal.returns-in-Again-clause-arrives
returns-in-Again-clause-arrives g c = λ x.
    let old = c.args.self.now in
    let ready = c.requires.ready.1 in
    let desk = c.index.result.now in
    let less : c.args.node < length old.desks.items = let up = ready.machines.are_ready.there (Node c.args.node) c.requires.up in let count = ready.desks in omega (arith, up, count) in
    let there : slice_get old.desks.items c.args.node ≡ Some desk = slice_get-get_or old.desks.items c.args.node desk less ∙ ap (λ (d : AtDesk). Some d) (sym c.index.ensures) in
    inr (inr (record {
      desk = desk;
      there = there;
      reply = c.in-Again.reply;
      kept = subst (λ h. Hears desk c.args.client c.args.bytes.now h) c.in-Again.is c.in_ok-message.ensures;
      outcome_is = c.send_again.ensures.outcome;
      same = c.send_again.ensures.same;
      stands = c.send_again.ensures.stands x;
    }))

pub returns-in-Passed-clause-shows : goal.returns-in-Passed-clause-shows
returns-in-Passed-clause-shows g c = c.turn.ensures.shows c.args.client c.args.bytes

pub returns-in-Passed-clause-arrives : goal.returns-in-Passed-clause-arrives
returns-in-Passed-clause-arrives g c = λ x.
    let old = c.args.self.now in
    let ready = c.requires.ready.1 in
    let desk = c.index.result.now in
    let less : c.args.node < length old.desks.items = let up = ready.machines.are_ready.there (Node c.args.node) c.requires.up in let count = ready.desks in omega (arith, up, count) in
    let there : slice_get old.desks.items c.args.node ≡ Some desk = slice_get-get_or old.desks.items c.args.node desk less ∙ ap (λ (d : AtDesk). Some d) (sym c.index.ensures) in
    if_ok_so _ _ c.turn.result
    (λ outcome turns. inr (inl (record {
      desk = desk;
      there = there;
      passed = subst (λ h. Hears desk c.args.client c.args.bytes.now h) c.in-Passed.is c.in_ok-message.ensures;
      turns = turns;
    })))
    (c.turn.ensures.turns x)

pub returns-in-New-clause-led : goal.returns-in-New-clause-led
returns-in-New-clause-led g c = λ x first parts led.
    let old = c.args.self.now in
    let ready = c.requires.ready in
    if_ok_with _ _ _ c.take.result
    (λ outcome arrives is_ready. arrives_led g.G.Register g.O.Owners g.S.Store g.E.Engine c.args.reading c.args.node c.args.client c.args.bytes old c.take.new.self x outcome ready.0 ready.1 is_ready first parts led arrives)
    (returns-in-New-clause-arrives g c x) (c.take.ensures.ready ready.0 ready.1)

pub returns-in-Again-clause-led : goal.returns-in-Again-clause-led
returns-in-Again-clause-led g c = λ x first parts led.
    let ready = c.requires.ready in
    arrives_led g.G.Register g.O.Owners g.S.Store g.E.Engine c.args.reading c.args.node c.args.client c.args.bytes c.args.self.now c.send_again.new.self x c.send_again.result ready.0 ready.1 (c.send_again.ensures.ready ready.0 ready.1) first parts led
    (returns-in-Again-clause-arrives g c x)

pub returns-in-Passed-clause-led : goal.returns-in-Passed-clause-led
returns-in-Passed-clause-led g c = λ x first parts led.
    let old = c.args.self.now in
    let ready = c.requires.ready in
    if_ok_with _ _ _ c.turn.result
    (λ outcome arrives is_ready. arrives_led g.G.Register g.O.Owners g.S.Store g.E.Engine c.args.reading c.args.node c.args.client c.args.bytes old c.turn.new.self x outcome ready.0 ready.1 is_ready first parts led arrives)
    (returns-in-Passed-clause-arrives g c x) (c.turn.ensures.ready ready.0 ready.1)
