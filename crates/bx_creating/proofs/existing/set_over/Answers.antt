use Rattle.bx_creating.proofs.SizeSet.{resizes, sets, sized_first, stopped}
use Rattle.bx_creating.proofs.existing.set_over.Goals as goal

pub returns-in-Err-clause-step : goal.returns-in-Err-clause-step
returns-in-Err-clause-step g c = λ truth tree few same s fit f.
    stopped c.args.volume.0 c.args.volume.1 truth tree c.args.call.now c.args.sattr.now c.args.now c.args.handle c.args.inode s f c.requires.regular c.requires.given c.size_alone-alone.result c.in-Err.stop
    (c.in-Err.ensures.step truth tree f.file few same s.is fit f.holds f.there)

pub returns-in_ok-reply-in-Ok-clause-step : goal.returns-in_ok-reply-in-Ok-clause-step
returns-in_ok-reply-in-Ok-clause-step g c = λ truth tree few same s fit f.
    sets c.args.volume.0 c.args.volume.1 truth tree c.args.call.now c.args.sattr.now c.args.now c.args.handle c.args.inode s f c.requires.regular c.requires.given (rw c.in_default.is at c.in_ok-status.ensures)
    c.size_alone-alone.result c.size_alone-alone.ensures c.in-Ok.draft c.in-Ok.inode c.in_ok-reply-in-Ok.reply
    (c.in-Ok.ensures.step truth tree f.file few same s.is fit f.holds f.there) c.in_ok-reply-in-Ok.ensures

pub returns-in_ok-reply-in-Ok-clause-hints : goal.returns-in_ok-reply-in-Ok-clause-hints
returns-in_ok-reply-in-Ok-clause-hints g c = λ other truth tree few same s fit f all. (c.in-Ok.ensures.step truth tree f.file few same s.is fit f.holds f.there).leads other all

pub returns-in-Err-clause-lacks : goal.returns-in-Err-clause-lacks
returns-in-Err-clause-lacks g c = λ truth tree few same s fit f.
    sized_first c.args.volume.0 c.args.volume.1 truth tree c.args.call.now c.args.sattr.now c.args.now c.args.handle c.args.inode s f c.requires.regular c.requires.given (rw c.in_default.is at c.in_ok-status.ensures)
    c.size_alone-alone.result c.size_alone-alone.ensures c.in-Err.stop (c.in-Err.ensures.lacks truth tree f.file few same s.is fit f.holds f.there)

pub returns-in_ok-reply-in-Ok-clause-ready : goal.returns-in_ok-reply-in-Ok-clause-ready
returns-in_ok-reply-in-Ok-clause-ready g c = λ truth tree few same s fit f.
    resizes c.args.volume.0 c.args.volume.1 truth tree c.args.call.now c.args.sattr.now c.args.now c.args.handle c.args.inode s f c.requires.regular c.requires.given c.size_alone-alone.result c.size_alone-alone.ensures c.in-Ok.ensures.ready
