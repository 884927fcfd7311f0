use Rattle.std.proofs.Common.{◌≡◌, inl, Err, ap, ◌∙◌}
use Rattle.std.proofs.lemmas.Result.{err_from_is_err_and}
use Rattle.bx_disk.specs.Disks.{Disks}
use Rattle.bx_facts.specs.Labelled.{IsFirstLabel}
use Rattle.bx_layout.specs.declared.label.Label.{Label}
use Rattle.bx_paxos_found.proofs.Labelling.{of_none, of_some}
use Rattle.bx_paxos_found.proofs.Refusals.{is_greatest, looked_never, no_lack, no_volume, on_ok, spent_at, too_few}
use Rattle.bx_paxos_found.proofs.Threes.{all_seen, boots_below, has_found, ok_map, reads_found, same_of, same_twice, stands_found, state_is, synced_all}
use Rattle.bx_paxos_found.proofs.finding.find.Goals as goal

pub returns-clause-reads : goal.returns-clause-reads
returns-clause-reads g c = λ made same tells.
    let x = g.R.Rack.state c.args.rack.now in
    let v = g.R.Rack.state c.volume_label.new.rack in
    let y = g.R.Rack.state c.look.new.rack in
    let z = g.R.Rack.state c.look-2.new.rack in
    let read = c.in-Ok.ensures.stays in
    let one = c.in_ok-first.ensures in
    let two = c.in_ok-second.ensures in
    let last = c.in_ok-third.ensures in
    let before = c.in-Ok.ensures.rack.keeps_telling tells in
    let told = one.rack.keeps_telling before in
    let again = two.rack.keeps_telling told in
    let label = of_some (λ (l : Label). IsFirstLabel x.sizes x.reads l × (l.devices ≡ c.args.devices)) c.in-Ok.found c.in-Some.label c.in-Some.is (c.in-Ok.ensures.some tells) in
    let seen = all_seen c.args.devices x v y z c.in-Some.label c.in_ok-first.first c.in_ok-second.second c.in_ok-third.third read one.rack.sizes two.rack.sizes (one.disks before) (two.disks told) label (one.seen before) (two.seen told) (last.seen again) in
    ok_map c.make.result _ _ (λ f is. reads_found c.in_ok-first.first c.in_ok-second.second c.in_ok-third.third f is c.args.devices one.held two.held last.held x seen.0 seen.1.0 seen.1.1 made same) c.make.ensures.made

pub returns-clause-found : goal.returns-clause-found
returns-clause-found g c = λ tells.
    let x = g.R.Rack.state c.args.rack.now in
    let v = g.R.Rack.state c.volume_label.new.rack in
    let y = g.R.Rack.state c.look.new.rack in
    let z = g.R.Rack.state c.look-2.new.rack in
    let w = g.R.Rack.state c.look-3.new.rack in
    let read = c.in-Ok.ensures.stays in
    let one = c.in_ok-first.ensures in
    let two = c.in_ok-second.ensures in
    let last = c.in_ok-third.ensures in
    let before = c.in-Ok.ensures.rack.keeps_telling tells in
    let told = one.rack.keeps_telling before in
    let again = two.rack.keeps_telling told in
    let label = of_some (λ (l : Label). IsFirstLabel x.sizes x.reads l × (l.devices ≡ c.args.devices)) c.in-Ok.found c.in-Some.label c.in-Some.is (c.in-Ok.ensures.some tells) in
    let seen = all_seen c.args.devices x v y z c.in-Some.label c.in_ok-first.first c.in_ok-second.second c.in_ok-third.third read one.rack.sizes two.rack.sizes (one.disks before) (two.disks told) label (one.seen before) (two.seen told) (last.seen again) in
    let to_z = same_twice x y z (same_twice x v y (same_of x v read) (one.disks before)) (two.disks told) in
    ok_map c.make.result _ _
    (λ f is. (
      _,
      has_found c.in_ok-first.first c.in_ok-second.second c.in_ok-third.third f is,
      stands_found c.in_ok-first.first c.in_ok-second.second c.in_ok-third.third f is c.args.devices one.held two.held last.held x seen.0 seen.1.0 seen.1.1 w (same_twice x z w to_z (last.disks again)) (last.rack.sizes ∙ two.rack.sizes ∙ one.rack.sizes ∙ ap (λ (d : Disks). d.sizes) read)
          (synced_all x v y z w read one.rack.sizes two.rack.sizes (two.disks told) (last.disks again) (one.sure before) (two.sure told) (last.sure again)),
    )) c.make.ensures.made

pub returns-clause-allowed : goal.returns-clause-allowed
returns-clause-allowed g c =
    ok_map c.make.result _ _ (λ f is. (state_is c.in_ok-first.first c.in_ok-second.second c.in_ok-third.third f is c.args.devices c.in_ok-first.ensures.held c.in_ok-second.ensures.held c.in_ok-third.ensures.held).0) c.make.ensures.made

pub returns-clause-devices : goal.returns-clause-devices
returns-clause-devices g c =
    ok_map c.make.result _ _ (λ f is. (state_is c.in_ok-first.first c.in_ok-second.second c.in_ok-third.third f is c.args.devices c.in_ok-first.ensures.held c.in_ok-second.ensures.held c.in_ok-third.ensures.held).1) c.make.ensures.made

pub returns-clause-boots : goal.returns-clause-boots
returns-clause-boots g c = ok_map c.make.result _ _ (λ f is. boots_below c.in_ok-first.first c.in_ok-second.second c.in_ok-third.third f is) c.make.ensures.made

pub returns-clause-few : goal.returns-clause-few
returns-clause-few g c = ok_map c.make.result _ _ (λ f is. is.most) c.make.ensures.made

pub returns-in_default-found-clause-no_majority : goal.returns-in_default-found-clause-no_majority
returns-in_default-found-clause-no_majority g c = λ tells is.
    inl (no_volume c.args.devices (g.R.Rack.state c.args.rack.now) (of_none c.in-Ok.found c.in_default-found.is (c.in-Ok.ensures.none tells)))

pub returns-clause-no_majority : goal.returns-clause-no_majority
returns-clause-no_majority g c = λ tells is.
    let x = g.R.Rack.state c.args.rack.now in
    let v = g.R.Rack.state c.volume_label.new.rack in
    let y = g.R.Rack.state c.look.new.rack in
    let z = g.R.Rack.state c.look-2.new.rack in
    let read = c.in-Ok.ensures.stays in
    let one = c.in_ok-first.ensures in
    let two = c.in_ok-second.ensures in
    let last = c.in_ok-third.ensures in
    let before = c.in-Ok.ensures.rack.keeps_telling tells in
    let told = one.rack.keeps_telling before in
    let again = two.rack.keeps_telling told in
    let label = of_some (λ (l : Label). IsFirstLabel x.sizes x.reads l × (l.devices ≡ c.args.devices)) c.in-Ok.found c.in-Some.label c.in-Some.is (c.in-Ok.ensures.some tells) in
    let seen = all_seen c.args.devices x v y z c.in-Some.label c.in_ok-first.first c.in_ok-second.second c.in_ok-third.third read one.rack.sizes two.rack.sizes (one.disks before) (two.disks told) label (one.seen before) (two.seen told) (last.seen again) in
    too_few c.args.devices x c.in_ok-first.first c.in_ok-second.second c.in_ok-third.third seen.0 seen.1.0 seen.1.1 (c.make.ensures.few is)

pub returns-clause-majority : goal.returns-clause-majority
returns-clause-majority g c = λ tells.
    let x = g.R.Rack.state c.args.rack.now in
    let v = g.R.Rack.state c.volume_label.new.rack in
    let y = g.R.Rack.state c.look.new.rack in
    let z = g.R.Rack.state c.look-2.new.rack in
    let read = c.in-Ok.ensures.stays in
    let one = c.in_ok-first.ensures in
    let two = c.in_ok-second.ensures in
    let last = c.in_ok-third.ensures in
    let before = c.in-Ok.ensures.rack.keeps_telling tells in
    let told = one.rack.keeps_telling before in
    let again = two.rack.keeps_telling told in
    let label = of_some (λ (l : Label). IsFirstLabel x.sizes x.reads l × (l.devices ≡ c.args.devices)) c.in-Ok.found c.in-Some.label c.in-Some.is (c.in-Ok.ensures.some tells) in
    let seen = all_seen c.args.devices x v y z c.in-Some.label c.in_ok-first.first c.in_ok-second.second c.in_ok-third.third read one.rack.sizes two.rack.sizes (one.disks before) (two.disks told) label (one.seen before) (two.seen told) (last.seen again) in
    on_ok c.make.result _ _ (λ f is. no_lack c.args.devices x c.in_ok-first.first c.in_ok-second.second c.in_ok-third.third seen.0 seen.1.0 seen.1.1 is.two) c.make.ensures.made

pub returns-clause-spent : goal.returns-clause-spent
returns-clause-spent g c = λ boot tells is.
    let x = g.R.Rack.state c.args.rack.now in
    let v = g.R.Rack.state c.volume_label.new.rack in
    let y = g.R.Rack.state c.look.new.rack in
    let z = g.R.Rack.state c.look-2.new.rack in
    let read = c.in-Ok.ensures.stays in
    let one = c.in_ok-first.ensures in
    let two = c.in_ok-second.ensures in
    let last = c.in_ok-third.ensures in
    let before = c.in-Ok.ensures.rack.keeps_telling tells in
    let told = one.rack.keeps_telling before in
    let again = two.rack.keeps_telling told in
    let label = of_some (λ (l : Label). IsFirstLabel x.sizes x.reads l × (l.devices ≡ c.args.devices)) c.in-Ok.found c.in-Some.label c.in-Some.is (c.in-Ok.ensures.some tells) in
    let seen = all_seen c.args.devices x v y z c.in-Some.label c.in_ok-first.first c.in_ok-second.second c.in_ok-third.third read one.rack.sizes two.rack.sizes (one.disks before) (two.disks told) label (one.seen before) (two.seen told) (last.seen again) in
    spent_at c.args.devices x c.in_ok-first.first c.in_ok-second.second c.in_ok-third.third seen.0 seen.1.0 seen.1.1 boot (c.make.ensures.spent boot is)

pub returns-in_err-third-clause-spent : goal.returns-in_err-third-clause-spent
returns-in_err-third-clause-spent g c = λ boot tells is.
    let p = err_from_is_err_and c.from_residual-in_err-third.result c.from_residual-in_err-third.ensures.1 in
    absurd (looked_never c.from_residual-in_err-third.result c.in_err-third.field-0.0 boot (p.1 ∙ ap Err p.2) c.in_err-third.ensures.errors is)

pub returns-clause-above : goal.returns-clause-above
returns-clause-above g c = λ boot is. (c.make.ensures.spent boot is).above

pub returns-clause-greatest : goal.returns-clause-greatest
returns-clause-greatest g c = λ tells.
    let x = g.R.Rack.state c.args.rack.now in
    let v = g.R.Rack.state c.volume_label.new.rack in
    let y = g.R.Rack.state c.look.new.rack in
    let z = g.R.Rack.state c.look-2.new.rack in
    let read = c.in-Ok.ensures.stays in
    let one = c.in_ok-first.ensures in
    let two = c.in_ok-second.ensures in
    let last = c.in_ok-third.ensures in
    let before = c.in-Ok.ensures.rack.keeps_telling tells in
    let told = one.rack.keeps_telling before in
    let again = two.rack.keeps_telling told in
    let label = of_some (λ (l : Label). IsFirstLabel x.sizes x.reads l × (l.devices ≡ c.args.devices)) c.in-Ok.found c.in-Some.label c.in-Some.is (c.in-Ok.ensures.some tells) in
    let seen = all_seen c.args.devices x v y z c.in-Some.label c.in_ok-first.first c.in_ok-second.second c.in_ok-third.third read one.rack.sizes two.rack.sizes (one.disks before) (two.disks told) label (one.seen before) (two.seen told) (last.seen again) in
    ok_map c.make.result _ _ (λ f is. is_greatest c.args.devices x c.in_ok-first.first c.in_ok-second.second c.in_ok-third.third seen.0 seen.1.0 seen.1.1 f.boot is.two is.boot) c.make.ensures.made
