use Rattle.std.proofs.Common.{ap, ◌∙◌, None}
use Rattle.std.specs.Option.{option_or}
use Rattle.bx_world_events.proofs.Refused.{both, in_turn}
use Rattle.bx_world_events.proofs.refusals.refusal.Goals as goal

pub returns : goal.returns
returns g c =
    let e2 = c.or-2.ensures ∙ ap (λ o. option_or o c.no_packet.result) c.or.ensures in
    let e3 = c.or-3.ensures ∙ ap (λ o. option_or o c.is_up.result) e2 in
    let e4 = c.or-4.ensures ∙ ap (λ o. option_or o c.is_down.result) e3 in
    let e5 = c.or-5.ensures ∙ ap (λ o. option_or o c.nothing_to_sync.result) e4 in
    let e6 = c.or-6.ensures ∙ ap (λ o. option_or o c.still_needed.result) e5 in
    e6 ∙ in_turn c.no_machine.result c.clock_back.result c.no_packet.result c.is_up.result c.is_down.result c.nothing_to_sync.result c.still_needed.result
    ∙ both c.no_machine.ensures (both c.clock_back.ensures (both c.no_packet.ensures (both c.is_up.ensures (both c.is_down.ensures (both c.nothing_to_sync.ensures (ap (λ o. option_or o None) c.still_needed.ensures))))))
