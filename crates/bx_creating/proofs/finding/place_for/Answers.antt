use Rattle.std.proofs.Common.{arith}
use Rattle.bx_creating.proofs.Found.{exists, found, list, no_directory, no_name, no_number}
use Rattle.bx_creating.proofs.finding.place_for.Goals as goal

pub returns-in_default-clause-step : goal.returns-in_default-clause-step
returns-in_default-clause-step g c = λ truth tree same s fit. no_name tree c.args.call.now c.args.name.now c.args.volume c.args.at.now s.volume_is 8 c.in_default.ensures

pub returns-in-Err-clause-step : goal.returns-in-Err-clause-step
returns-in-Err-clause-step g c = λ truth tree same s fit.
    no_directory tree c.args.call.now c.args.name.now c.args.volume c.args.at.now s.volume_is c.in-Some.handle c.in-Some.ensures c.args.areas (g.V.View.held c.args.view.now) (g.V.View.hints c.args.view.now) truth c.in-Err.stop
    (c.in-Err.ensures.step truth tree same s.is)

pub returns-in-Err-no_entry-clause-step : goal.returns-in-Err-no_entry-clause-step
returns-in-Err-no_entry-clause-step g c = λ truth tree same s fit.
    let m = c.in-Ok.ensures.step truth tree same s.is in
    let l = list tree c.args.call.now c.args.name.now c.args.volume c.args.at.now s.volume_is c.in-Some.handle c.in-Some.ensures c.args.areas (g.V.View.held c.args.view.now) (g.V.View.hints c.args.view.now) truth c.in-Ok.inode m c.requires same s fit in
    exists tree c.args.call.now c.args.name.now c.args.volume c.args.at.now s.volume_is c.in-Some.handle c.in-Some.ensures c.args.areas (g.V.View.held c.args.view.now) (g.V.View.hints c.args.view.now) truth c.in-Ok.inode m c.requires same s fit
    c.in-Err-no_entry.stop (c.in-Err-no_entry.ensures.list truth l.names l.entries)

pub returns-then-inode-clause-step : goal.returns-then-inode-clause-step
returns-then-inode-clause-step g c = λ truth tree same s fit.
    let m = c.in-Ok.ensures.step truth tree same s.is in
    let l = list tree c.args.call.now c.args.name.now c.args.volume c.args.at.now s.volume_is c.in-Some.handle c.in-Some.ensures c.args.areas (g.V.View.held c.args.view.now) (g.V.View.hints c.args.view.now) truth c.in-Ok.inode m c.requires same s fit in
    no_number tree c.args.call.now c.args.name.now c.args.volume c.args.at.now s.volume_is c.in-Some.handle c.in-Some.ensures c.args.areas (g.V.View.held c.args.view.now) (g.V.View.hints c.args.view.now) truth c.in-Ok.inode m c.requires same s fit
    (c.in-Ok-no_entry.ensures.list truth l.names l.entries) c.if-inode.true

pub returns-else-inode-clause-step : goal.returns-else-inode-clause-step
returns-else-inode-clause-step g c = λ truth tree same s fit.
    let m = c.in-Ok.ensures.step truth tree same s.is in
    let l = list tree c.args.call.now c.args.name.now c.args.volume c.args.at.now s.volume_is c.in-Some.handle c.in-Some.ensures c.args.areas (g.V.View.held c.args.view.now) (g.V.View.hints c.args.view.now) truth c.in-Ok.inode m c.requires same s fit in
    found tree c.args.call.now c.args.name.now c.args.volume c.args.at.now s.volume_is c.in-Some.handle c.in-Some.ensures c.args.areas (g.V.View.held c.args.view.now) (g.V.View.hints c.args.view.now) truth c.in-Ok.inode m c.requires same s fit
    (c.in-Ok-no_entry.ensures.list truth l.names l.entries)
    (let other = c.if-inode.false in let fits = c.in-Ok.ensures.live.has.spells.is.next in omega (arith, other, fits))
