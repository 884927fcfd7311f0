use Rattle.std.proofs.Common.{arith, sym, subst}
use Rattle.bx_disk.specs.Disks.{Disks}
use Rattle.bx_layout.specs.Labels.{IsOpenGate}
use Rattle.bx_volume.specs.Images.{devices_of}
use Rattle.bx_volume.specs.Records.{gate_of}
use Rattle.bx_homes.proofs.Counts.{as_many}
use Rattle.bx_homes.proofs.Sectors.{not_both}
use Rattle.bx_homes.proofs.gates.open_gates.Goals as goal

pub returns-then-not-branch-clause-records : goal.returns-then-not-branch-clause-records
returns-then-not-branch-clause-records g c = λ tells areas records log.
    let told = c.loop-gate.invariant.rack.keeps_telling tells in
    let was = c.loop-gate.invariant.stays in
    let answer = c.in_ok-is_open.ensures.answer told in
    as_many (devices_of (g.R.Rack.state c.args.rack.now).reads (λ device sector. c.args.second)) c.args.devices areas c.args.slot c.loop-gate.gate records
    (omega (arith, c.loop-gate-test.true)) (c.loop-gate.invariant.opened tells)
    (λ less is_open.
    let yes = answer.1 (subst (λ (s : Disks). IsOpenGate (gate_of (devices_of s.reads (λ device sector. c.args.second)) c.args.devices c.args.slot c.loop-gate.gate)) (sym was) is_open) in
    not_both c.in_ok-is_open.field-0 yes c.if-not-branch.true)
    log
