use Rattle.std.proofs.Common.{arith, rules, subst}
use Rattle.bx_logs.specs.bx_homes.proofs.Sectors.{of_some}
use Rattle.bx_recover.specs.Bodies.{IsRecordIn}
use Rattle.bx_recover.specs.Recovering.{IsRecovery, RecoveryView}
use Rattle.bx_recover.proofs.Taken.{added, fitting}
use Rattle.bx_recover.proofs.recovery.Recovery.take_body.Goals as goal

pub body_read-requires : goal.body_read-requires
body_read-requires c =
    let is : IsRecovery c.args.self.now = subst IsRecovery c.self.view_is (search rules) in
    let fits = fitting c.args.self.now.stage c.args.self.now.records c.args.opened c.requires is.fits in
    omega (arith, fits.0, fits.1)

pub returns-in-Some-clause-ok : goal.returns-in-Some-clause-ok
returns-in-Some-clause-ok c =
    let is : IsRecovery c.args.self.now = subst IsRecovery c.self.view_is (search rules) in
    let fits = fitting c.args.self.now.stage c.args.self.now.records c.args.opened c.requires is.fits in
    let there = of_some (IsRecordIn c.self.inside.areas c.args.bytes.now) c.in_ok-record.field-0 c.in-Some.record c.in-Some.is c.in_ok-record.ensures.some in
    added c.args.self.now c.add.new.self c.args.opened c.args.bytes.now c.in-Some.record c.add.result (search rules)
    (subst (λ (recovery : RecoveryView). IsRecordIn recovery.areas c.args.bytes.now c.in-Some.record) c.self.view_is there)
    fits.0 c.add.ensures.next c.add.ensures.all
