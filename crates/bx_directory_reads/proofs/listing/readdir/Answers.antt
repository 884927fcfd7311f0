use Rattle.std.proofs.Common.{◌∙◌, sym}
use Rattle.bx_directory_reads.proofs.Followed.{directory, listed_of, lists, refused}
use Rattle.bx_reads.proofs.Told.{stops}
use Rattle.bx_directory_reads.proofs.listing.readdir.Goals as goal

pub returns-in-Err-clause-step : goal.returns-in-Err-clause-step
returns-in-Err-clause-step g c = λ truth tree same s fit.
    stops tree c.args.at.now c.args.areas truth (listed_of tree c.args.call.now c.args.cookie c.args.count) c.in-Err.stop (c.in-Err.ensures.names truth tree same s)

pub returns-in-Some-clause-step : goal.returns-in-Some-clause-step
returns-in-Some-clause-step g c = λ truth tree same s fit.
    refused tree c.args.call.now c.args.cookie c.args.count c.args.at.now c.args.areas c.in-Ok.handle truth c.in-Ok.inode (c.in-Ok.ensures.names truth tree same s) c.in-Some.status c.in_ok-status-in-Ok.field-0 c.in-Some.is c.in_ok-status-in-Ok.ensures

pub returns-in_default-clause-step : goal.returns-in_default-clause-step
returns-in_default-clause-step g c = λ truth tree same s fit.
    let named = c.in-Ok.ensures.names truth tree same s in
    let none = sym c.in_default.is ∙ c.in_ok-status-in-Ok.ensures in
    let held = g.V.View.held c.args.view.now in
    let hints = g.V.View.hints c.args.view.now in
    let d = directory tree c.args.call.now c.args.cookie c.args.count c.args.at.now c.args.areas c.in-Ok.handle truth c.in-Ok.inode named c.args.volume held hints c.requires same s fit none in
    lists tree c.args.call.now c.args.cookie c.args.count c.args.at.now c.args.areas c.in-Ok.handle truth c.in-Ok.inode named c.args.volume held hints c.requires same s fit none c.page_behind.result (c.page_behind.ensures.list truth d.names d.entries)
