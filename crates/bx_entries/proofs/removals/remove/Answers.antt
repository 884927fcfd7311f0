use Rattle.std.specs.Prelude.{Ok, Err}
use Rattle.bx_entries.proofs.RemovedFrom.{is_changed, no_directory, no_name, not_removed, removes_from}
use Rattle.bx_entries.proofs.removals.remove.Goals as goal

pub returns-in_default-clause-step : goal.returns-in_default-clause-step
returns-in_default-clause-step g c = λ truth tree same s fit. no_name c.args.sort tree c.args.call.now c.args.name.now c.args.now c.args.volume c.args.at.now s.volume_is c.in_default.ensures

pub returns-in-Err-clause-step : goal.returns-in-Err-clause-step
returns-in-Err-clause-step g c = λ truth tree same s fit.
    no_directory c.args.sort tree c.args.call.now c.args.name.now c.args.now c.args.volume c.args.at.now s.volume_is c.in-Some.handle c.in-Some.ensures c.args.areas truth c.in-Err.stop (c.in-Err.ensures.step truth tree same s.is)

pub returns-in-Err-remove_from-clause-step : goal.returns-in-Err-remove_from-clause-step
returns-in-Err-remove_from-clause-step g c = λ truth tree same s fit.
    let m = c.in-Ok.ensures.step truth tree same s.is in
    not_removed c.args.sort tree c.args.call.now c.args.name.now c.args.now c.args.volume c.args.at.now s.volume_is c.in-Some.handle c.in-Some.ensures c.args.areas truth c.in-Ok.inode m c.in-Err-remove_from.stop
    (removes_from c.args.sort tree c.args.call.now c.args.name.now c.args.now c.args.volume c.args.at.now s.volume_is c.in-Some.handle c.in-Some.ensures c.args.areas truth c.in-Ok.inode m
    (g.V.View.held c.args.view.now) (g.V.View.hints c.args.view.now) c.requires same s fit (Err c.in-Err-remove_from.stop) (λ is. c.in-Err-remove_from.ensures.step c.args.volume truth tree is))

pub returns-in-Ok-remove_from-clause-step : goal.returns-in-Ok-remove_from-clause-step
returns-in-Ok-remove_from-clause-step g c = λ truth tree same s fit.
    let m = c.in-Ok.ensures.step truth tree same s.is in
    is_changed c.args.sort tree c.args.call.now c.args.name.now c.args.now c.args.volume c.args.at.now s.volume_is c.in-Some.handle c.in-Some.ensures c.args.areas truth c.in-Ok.inode m s c.in-Ok-remove_from.draft
    (removes_from c.args.sort tree c.args.call.now c.args.name.now c.args.now c.args.volume c.args.at.now s.volume_is c.in-Some.handle c.in-Some.ensures c.args.areas truth c.in-Ok.inode m
    (g.V.View.held c.args.view.now) (g.V.View.hints c.args.view.now) c.requires same s fit (Ok c.in-Ok-remove_from.draft) (λ is. c.in-Ok-remove_from.ensures.step c.args.volume truth tree is))

pub returns-in-Ok-remove_from-clause-hints : goal.returns-in-Ok-remove_from-clause-hints
returns-in-Ok-remove_from-clause-hints g c = λ other truth tree same s fit other_fit.
    let m = c.in-Ok.ensures.step truth tree same s.is in
    let r = removes_from c.args.sort tree c.args.call.now c.args.name.now c.args.now c.args.volume c.args.at.now s.volume_is c.in-Some.handle c.in-Some.ensures c.args.areas truth c.in-Ok.inode m
    (g.V.View.held c.args.view.now) (g.V.View.hints c.args.view.now) c.requires same s fit (Ok c.in-Ok-remove_from.draft) (λ is. c.in-Ok-remove_from.ensures.step c.args.volume truth tree is) in
    r.removes.leads other other_fit
