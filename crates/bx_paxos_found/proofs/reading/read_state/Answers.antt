use Rattle.std.proofs.Common.{◌≡◌}
use Rattle.std.proofs.lemmas.List.{length-replicate}
use Rattle.bx_facts.specs.Labelled.{IsFirstLabel}
use Rattle.bx_global.specs.Opening.{first_device, formatted_state}
use Rattle.bx_layout.specs.declared.label.Label.{Label}
use Rattle.bx_paxos_found.proofs.Labelling.{of_none, of_some}
use Rattle.bx_paxos_found.proofs.Refusals.{no_volume}
use Rattle.bx_paxos_found.proofs.Seeing.{lack_three, none_map, read_three, some_map}
use Rattle.bx_paxos_found.proofs.Threes.{all_seen, same_of}
use Rattle.bx_paxos_found.proofs.reading.read_state.Goals as goal

pub returns-in_default-clause-none : goal.returns-in_default-clause-none
returns-in_default-clause-none g c = λ tells.
    no_volume c.args.devices (g.R.Rack.state c.args.rack.now) (of_none c.in_ok-label.field-0 c.in_default.is (c.in_ok-label.ensures.none tells))

pub returns-clause-some : goal.returns-clause-some
returns-clause-some g c = λ tells.
    let x = g.R.Rack.state c.args.rack.now in
    let v = g.R.Rack.state c.volume_label.new.rack in
    let y = g.R.Rack.state c.view.new.rack in
    let z = g.R.Rack.state c.view-2.new.rack in
    let one = c.in_ok-first.ensures in
    let two = c.in_ok-second.ensures in
    let before = c.in_ok-label.ensures.rack.keeps_telling tells in
    let told = one.rack.keeps_telling before in
    let again = two.rack.keeps_telling told in
    let label = of_some (λ (l : Label). IsFirstLabel x.sizes x.reads l × (l.devices ≡ c.args.devices)) c.in_ok-label.field-0 c.in-Some.label c.in-Some.is (c.in_ok-label.ensures.some tells) in
    let seen = all_seen c.args.devices x v y z c.in-Some.label c.in_ok-first.first c.in_ok-second.second c.in_ok-third.third c.in_ok-label.ensures.stays one.rack.sizes two.rack.sizes (same_of v y one.stays) (same_of y z two.stays) label
    (one.seen before) (two.seen told) (c.in_ok-third.ensures.seen again) in
    some_map c.read_as.result _ _ (read_three c.args.devices x c.in_ok-first.first c.in_ok-second.second c.in_ok-third.third seen.0 seen.1.0 seen.1.1 (formatted_state c.args.devices) (length-replicate c.args.devices first_device)) c.read_as.ensures.some

pub returns-clause-none : goal.returns-clause-none
returns-clause-none g c = λ tells.
    let x = g.R.Rack.state c.args.rack.now in
    let v = g.R.Rack.state c.volume_label.new.rack in
    let y = g.R.Rack.state c.view.new.rack in
    let z = g.R.Rack.state c.view-2.new.rack in
    let one = c.in_ok-first.ensures in
    let two = c.in_ok-second.ensures in
    let before = c.in_ok-label.ensures.rack.keeps_telling tells in
    let told = one.rack.keeps_telling before in
    let again = two.rack.keeps_telling told in
    let label = of_some (λ (l : Label). IsFirstLabel x.sizes x.reads l × (l.devices ≡ c.args.devices)) c.in_ok-label.field-0 c.in-Some.label c.in-Some.is (c.in_ok-label.ensures.some tells) in
    let seen = all_seen c.args.devices x v y z c.in-Some.label c.in_ok-first.first c.in_ok-second.second c.in_ok-third.third c.in_ok-label.ensures.stays one.rack.sizes two.rack.sizes (same_of v y one.stays) (same_of y z two.stays) label
    (one.seen before) (two.seen told) (c.in_ok-third.ensures.seen again) in
    none_map c.read_as.result _ _ (lack_three c.args.devices x c.in_ok-first.first c.in_ok-second.second c.in_ok-third.third seen.0 seen.1.0 seen.1.1) c.read_as.ensures.none
