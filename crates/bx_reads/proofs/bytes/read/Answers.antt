use Rattle.std.proofs.Common.{◌∙◌, sym}
use Rattle.bx_reads.proofs.BytesRead.{read_stops, read_told, reading, refused}
use Rattle.bx_reads.proofs.Told.{stops}
use Rattle.bx_reads.proofs.bytes.read.Goals as goal

pub returns-in-Err-clause-step : goal.returns-in-Err-clause-step
returns-in-Err-clause-step g c = λ truth tree same s fit.
    stops tree c.args.at.now c.args.areas truth (reading tree c.args.call.now c.args.offset c.args.count) c.in-Err.stop (c.in-Err.ensures.names truth tree same s)

pub returns-in-Some-clause-step : goal.returns-in-Some-clause-step
returns-in-Some-clause-step g c = λ truth tree same s fit.
    refused tree c.args.call.now c.args.offset c.args.count c.args.at.now c.args.areas c.in-Ok.handle truth c.in-Ok.inode (c.in-Ok.ensures.names truth tree same s) c.in-Some.status c.in_ok-status-in-Ok.field-0 c.in-Some.is c.in_ok-status-in-Ok.ensures

pub returns-in-Err-read-clause-step : goal.returns-in-Err-read-clause-step
returns-in-Err-read-clause-step g c = λ truth tree same s fit.
    let named = c.in-Ok.ensures.names truth tree same s in
    read_stops tree c.args.call.now c.args.offset c.args.count c.args.at.now c.args.areas c.in-Ok.handle truth c.in-Ok.inode named c.args.volume (g.V.View.held c.args.view.now) (g.V.View.hints c.args.view.now) c.requires same s fit
    (sym c.in_default.is ∙ c.in_ok-status-in-Ok.ensures) c.min.result c.in-Err-read.stop c.in-Err-read.ensures.file

pub returns-clause-step : goal.returns-clause-step
returns-clause-step g c = λ truth tree same s fit.
    let named = c.in-Ok.ensures.names truth tree same s in
    read_told tree c.args.call.now c.args.offset c.args.count c.args.at.now c.args.areas c.in-Ok.handle truth c.in-Ok.inode named c.args.volume (g.V.View.held c.args.view.now) (g.V.View.hints c.args.view.now) c.requires same s fit
    (sym c.in_default.is ∙ c.in_ok-status-in-Ok.ensures) c.min.result c.in_ok-words-in-Ok.words c.in-Ok-read.bytes
    (c.in_ok-words-in-Ok.ensures named.file named.handle_is named.fields named.size named.size_fits) c.min.ensures c.in-Ok-read.ensures.file
