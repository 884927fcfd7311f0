use Rattle.std.proofs.Common.{◌∙◌, sym, inr}
use Rattle.bx_directory_reads.proofs.LookedUp.{directory, looking, meant_told, refused, stops_meant}
use Rattle.bx_directory_reads.proofs.Wider.{needs_wider}
use Rattle.bx_directory_reads.specs.Lookups.{OnLooking}
use Rattle.bx_reads.specs.bx_files.specs.Paths.{IsBlockOf}
use Rattle.bx_model.specs.declared.reply.Reply.{Reply}
use Rattle.bx_reads.proofs.Told.{stops}
use Rattle.bx_directory_reads.proofs.lookups.lookup.Goals as goal

pub returns-in-Err-clause-step : goal.returns-in-Err-clause-step
returns-in-Err-clause-step g c = λ truth tree same s fit.
    stops tree c.args.at.now c.args.areas truth (looking tree c.args.call.now c.args.name.now) c.in-Err.stop (c.in-Err.ensures.names truth tree same s)

pub returns-in-Some-clause-step : goal.returns-in-Some-clause-step
returns-in-Some-clause-step g c = λ truth tree same s fit.
    refused tree c.args.call.now c.args.name.now c.args.at.now c.args.areas c.in-Ok.handle truth c.in-Ok.inode (c.in-Ok.ensures.names truth tree same s) c.in-Some.status c.in_ok-status-in-Ok.field-0 c.in-Some.is c.in_ok-status-in-Ok.ensures

pub returns-in-Err-meant-clause-step : goal.returns-in-Err-meant-clause-step
returns-in-Err-meant-clause-step g c = λ truth tree same s fit.
    let named = c.in-Ok.ensures.names truth tree same s in
    let none = sym c.in_default.is ∙ c.in_ok-status-in-Ok.ensures in
    let d = directory tree c.args.call.now c.args.name.now c.args.at.now c.args.areas c.in-Ok.handle truth c.in-Ok.inode named c.args.volume (g.V.View.held c.args.view.now) (g.V.View.hints c.args.view.now) c.requires same s fit none in
    stops_meant tree c.args.call.now c.args.name.now c.args.at.now c.args.areas c.in-Ok.handle truth c.in-Ok.inode named c.args.volume (g.V.View.held c.args.view.now) (g.V.View.hints c.args.view.now) c.requires same s fit none c.in-Err-meant.stop
    (c.in-Err-meant.ensures.means truth tree named.file d.parent d.next d.names d.entries named.found d.body_is d.parent_is)

pub returns-clause-step : goal.returns-clause-step
returns-clause-step g c = λ truth tree same s fit.
    let named = c.in-Ok.ensures.names truth tree same s in
    let none = sym c.in_default.is ∙ c.in_ok-status-in-Ok.ensures in
    let d = directory tree c.args.call.now c.args.name.now c.args.at.now c.args.areas c.in-Ok.handle truth c.in-Ok.inode named c.args.volume (g.V.View.held c.args.view.now) (g.V.View.hints c.args.view.now) c.requires same s fit none in
    meant_told tree c.args.call.now c.args.name.now c.args.at.now c.args.areas c.in-Ok.handle truth c.in-Ok.inode named c.args.volume (g.V.View.held c.args.view.now) (g.V.View.hints c.args.view.now) c.requires same s fit none c.in-Ok-meant.found
    (c.in-Ok-meant.ensures.means truth tree named.file d.parent d.next d.names d.entries named.found d.body_is d.parent_is) c.told.result (c.told.ensures.step truth tree same s)

pub returns-clause-need : goal.returns-clause-need
returns-clause-need g c =
    let held = g.V.View.held c.args.view.now in
    let hints = g.V.View.hints c.args.view.now in
    needs_wider Reply c.args.areas held (IsBlockOf c.in-Ok-meant.found) (OnLooking held hints c.args.volume c.args.areas c.args.at.now c.args.name.now)
    (λ at mode on. inr (record { directory = c.in-Ok.handle; inode = c.in-Ok.inode; seen = c.in-Ok.ensures.sees; on = inr (record { handle = c.in-Ok-meant.found; means = c.in-Ok-meant.ensures.may; is = on }) }))
    c.told.result c.told.ensures.need
