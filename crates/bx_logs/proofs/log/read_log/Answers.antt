use Rattle.std.proofs.Common.{◌≡◌, ℕ, ◌%◌, Bool, List, [], ◌∷◌, length, reverse, arith, sym, ap, subst, ◌∙◌}
use Rattle.std.proofs.lemmas.List.{length-append}
use Rattle.bx_disk.specs.Disks.{Image, Disks}
use Rattle.bx_layout.specs.Labels.{IsOpenGate}
use Rattle.bx_places.specs.Places.{gate_place, log_device}
use Rattle.bx_homes.specs.bx_volume.specs.Images.{devices_of, member_disk}
use Rattle.bx_homes.specs.bx_volume.specs.Records.{Logged, IsInBody, StandOpen}
use Rattle.bx_homes.proofs.Sectors.{of_none, of_some}
use Rattle.bx_logs.specs.declared.members.Members.{Members}
use Rattle.bx_logs.specs.Members.{held_by, member_in}
use Rattle.bx_logs.proofs.LogRuns.{log_same, none_missing, one_more}
use Rattle.bx_logs.proofs.log.read_log.Goals as goal

-- the member that a slot's device is read off
here : (image : Image) (members : Members) (slot : ℕ) (second : Bool) → second ≡ member_in members.seconds (slot % members.devices)
    → (s : ℕ) → devices_of image (λ device sector. second) (log_device slot members.devices) s ≡ held_by image members (log_device slot members.devices) s
here image members slot second same s = ap (λ (b : Bool). image (member_disk (log_device slot members.devices) b) s) same

pub returns-in_default-clause-none : goal.returns-in_default-clause-none
returns-in_default-clause-none g c = λ tells records log.
    let image = (g.R.Rack.state c.args.rack.now).reads in
    let members = c.args.members.now in
    let held = held_by image members in
    let told = c.loop-body.invariant.rack.keeps_telling tells in
    let none = of_none c.in_ok-record.field-0 c.in_default.is (c.in_ok-record.ensures.none told) in
    let as_read = log_same held (devices_of image (λ device sector. c.reads_second-second.result)) members.devices members.areas c.args.slot (here image members c.args.slot c.reads_second-second.result c.reads_second-second.ensures) records log in
    let many = c.in_ok-count.ensures.records tells members.areas records as_read in
    none_missing held members.devices members.areas c.args.slot records c.loop-body.body (omega (arith, many, c.loop-body-test.true)) log.stand
    (subst (λ (s : Disks). (logged : Logged) → IsInBody (held_by s.reads members) members.devices members.areas c.args.slot c.loop-body.body logged → ⊥) c.loop-body.invariant.stays none)

pub loop-body-preserved : goal.loop-body-preserved
loop-body-preserved g c = record {
  stays = c.in_ok-record.ensures.stays ∙ c.loop-body.invariant.stays;
  rack = grind arith;
  count = let long = ap length c.in_ok-push.ensures.ok in let both = length-append c.loop-body.records (c.in-Some.record ∷ []) in omega (arith, long, both, c.loop-body.invariant.count);
  stand = λ tells.
      let image = (g.R.Rack.state c.args.rack.now).reads in
      let members = c.args.members.now in
      let held = held_by image members in
      let place = gate_place c.args.slot c.loop-body.body members.devices in
      let opened = c.in_ok-count.ensures.opened tells c.loop-body.body (omega (arith, c.loop-body-test.true)) in
      let is = of_some _ c.in_ok-record.field-0 c.in-Some.record c.in-Some.is (c.in_ok-record.ensures.some (c.loop-body.invariant.rack.keeps_telling tells)) in
      subst (λ (records : List Logged). StandOpen held members.devices members.areas c.args.slot (reverse records)) (sym c.in_ok-push.ensures.ok)
      (one_more held members.devices members.areas c.args.slot c.loop-body.records c.in-Some.record c.loop-body.body c.loop-body.invariant.count (c.loop-body.invariant.stand tells)
      (subst IsOpenGate (here image members c.args.slot c.reads_second-second.result c.reads_second-second.ensures place.1) opened)
      (subst (λ (s : Disks). IsInBody (held_by s.reads members) members.devices members.areas c.args.slot c.loop-body.body c.in-Some.record) c.loop-body.invariant.stays is));
}
