use Rattle.std.proofs.Common.{inl, inr, refl, subst}
use Rattle.std.specs.Prelude.{IfNone, IfSome}
use Rattle.bx_disk.specs.Disks.{Disks}
use Rattle.bx_paxos_found.proofs.Labelling.{of_none, of_some}
use Rattle.bx_paxos_found.specs.Finding.{LackMajority}
use Rattle.bx_rack_audit.proofs.Own.{IsReadState, own_err, own_ok}
use Rattle.bx_rack_audit.proofs.states.own_state.Goals as goal
use Rattle.bx_volume.specs.Images.{IsFirstLabel}

pub returns-in_default-clause-err : goal.returns-in_default-clause-err
returns-in_default-clause-err g c = λ tells. inr (inl (refl, of_none c.in_ok-first.field-0 c.in_default.is (c.in_ok-first.ensures.none tells)))

pub returns-clause-ok : goal.returns-clause-ok
returns-clause-ok g c = λ tells.
    let x = g.R.Rack.state c.args.rack.now in
    let first = of_some (IsFirstLabel x.sizes x.reads) c.in_ok-first.field-0 c.in-Some.first c.in-Some.is (c.in_ok-first.ensures.some tells) in
    own_ok x c.in-Some.first c.in_ok-read.read first
    (subst (λ (d : Disks). IfSome c.in_ok-read.read (IsReadState d c.in-Some.first)) c.in_ok-first.ensures.stays (c.in_ok-read.ensures.some (c.in_ok-first.ensures.rack.keeps_telling tells))) c.told.result c.told.ensures.ok

pub returns-clause-err : goal.returns-clause-err
returns-clause-err g c = λ tells.
    let x = g.R.Rack.state c.args.rack.now in
    let first = of_some (IsFirstLabel x.sizes x.reads) c.in_ok-first.field-0 c.in-Some.first c.in-Some.is (c.in_ok-first.ensures.some tells) in
    own_err x c.in-Some.first c.in_ok-read.read first
    (subst (λ (d : Disks). IfNone c.in_ok-read.read (LackMajority c.in-Some.first.devices d.sizes d.reads)) c.in_ok-first.ensures.stays (c.in_ok-read.ensures.none (c.in_ok-first.ensures.rack.keeps_telling tells))) c.told.result c.told.ensures.err
