use Rattle.std.proofs.Common.{ℕ, List, subst, false, true, ◌∙◌, arith}
use Rattle.std.proofs.lemmas.Option.{slice_get-get_or, slice_get_within}
use Rattle.bx_volume.specs.Images.{member_disk}
use Rattle.bx_homes.specs.Sources.{IsLongEnough}
use Rattle.bx_homes.proofs.Labelled.{moved, moved_not, one_more, without_a, without_b}
use Rattle.bx_homes.proofs.Rooms.{rooms_too}
use Rattle.bx_homes.proofs.sources.first_unlabelled.Goals as goal

pub returns-then-branch-clause-some : goal.returns-then-branch-clause-some
returns-then-branch-clause-some g c = λ tells.
    let told = c.loop-device.invariant.rack.keeps_telling tells in
    let was = c.loop-device.invariant.stays in
    let lacks = c.in_ok-lacks_label.ensures.yes told c.if-branch.true in
    without_a c.args.first.now (g.R.Rack.state c.args.rack.now) c.args.rows.now c.loop-device.device _ (slice_get-get_or c.args.rows.now c.loop-device.device _ (omega (arith, c.loop-device-test.true, c.requires)))
    (c.loop-device.invariant.done tells) c.member_disk.result c.member_disk.ensures lacks.0
    (moved_not c.args.first.now (g.R.Rack.state c.loop-device.rack) (g.R.Rack.state c.args.rack.now) (member_disk c.loop-device.device false) was lacks.1)

pub returns-then-branch-2-clause-some : goal.returns-then-branch-2-clause-some
returns-then-branch-2-clause-some g c = λ tells.
    let told = c.loop-device.invariant.rack.keeps_telling tells in
    let was = c.loop-device.invariant.stays in
    let lacks = c.in_ok-lacks_label-2.ensures.yes (c.in_ok-lacks_label.ensures.rack.keeps_telling told) c.if-branch-2.true in
    without_b c.args.first.now (g.R.Rack.state c.args.rack.now) c.args.rows.now c.loop-device.device _ (slice_get-get_or c.args.rows.now c.loop-device.device _ (omega (arith, c.loop-device-test.true, c.requires)))
    (c.loop-device.invariant.done tells) c.member_disk-then-branch-2.result c.member_disk-then-branch-2.ensures
    (moved c.args.first.now (g.R.Rack.state c.loop-device.rack) (g.R.Rack.state c.args.rack.now) (member_disk c.loop-device.device false) was (c.in_ok-lacks_label.ensures.no told c.if-branch.false))
    lacks.0
    (moved_not c.args.first.now (g.R.Rack.state c.lacks_label.new.rack) (g.R.Rack.state c.args.rack.now) (member_disk c.loop-device.device true) (c.in_ok-lacks_label.ensures.stays ∙ was) lacks.1)

pub loop-device-preserved : goal.loop-device-preserved
loop-device-preserved g c = record {
  stays = c.in_ok-lacks_label-2.ensures.stays ∙ c.in_ok-lacks_label.ensures.stays ∙ c.loop-device.invariant.stays;
  rack = grind arith;
  room = rooms_too (g.R.Rack.state c.args.rack.now).sizes c.args.first.now c.args.rows.now c.loop-device.device _ (slice_get-get_or c.args.rows.now c.loop-device.device _ (omega (arith, c.loop-device-test.true, c.requires)))
      c.loop-device.invariant.room
      (λ source. subst (λ (sizes : List ℕ). IsLongEnough sizes c.args.first.now (member_disk c.loop-device.device false)) c.loop-device.invariant.rack.sizes (c.in_ok-lacks_label.ensures.room c.if-branch.false source))
      (λ source. subst (λ (sizes : List ℕ). IsLongEnough sizes c.args.first.now (member_disk c.loop-device.device true)) (c.in_ok-lacks_label.ensures.rack.sizes ∙ c.loop-device.invariant.rack.sizes) (c.in_ok-lacks_label-2.ensures.room c.if-branch-2.false source));
  done = λ tells.
      let told = c.loop-device.invariant.rack.keeps_telling tells in
      let was = c.loop-device.invariant.stays in
      one_more c.args.first.now (g.R.Rack.state c.args.rack.now) c.args.rows.now c.loop-device.device _ (slice_get-get_or c.args.rows.now c.loop-device.device _ (omega (arith, c.loop-device-test.true, c.requires)))
      (c.loop-device.invariant.done tells)
      (moved c.args.first.now (g.R.Rack.state c.loop-device.rack) (g.R.Rack.state c.args.rack.now) (member_disk c.loop-device.device false) was (c.in_ok-lacks_label.ensures.no told c.if-branch.false))
      (moved c.args.first.now (g.R.Rack.state c.lacks_label.new.rack) (g.R.Rack.state c.args.rack.now) (member_disk c.loop-device.device true) (c.in_ok-lacks_label.ensures.stays ∙ was)
      (c.in_ok-lacks_label-2.ensures.no (c.in_ok-lacks_label.ensures.rack.keeps_telling told) c.if-branch-2.false));
}

pub returns-clause-none : goal.returns-clause-none
returns-clause-none g c = λ tells device row is.
    let within = slice_get_within c.args.rows.now device row is in
    c.loop-device.invariant.done tells device row (omega (arith, within, c.loop-device-test.false, c.requires, c.loop-device.auto.device-end)) is

pub returns-clause-room : goal.returns-clause-room
returns-clause-room g c = λ device row is.
    let within = slice_get_within c.args.rows.now device row is in
    c.loop-device.invariant.room device row (omega (arith, within, c.loop-device-test.false, c.requires, c.loop-device.auto.device-end)) is
