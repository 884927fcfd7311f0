use Rattle.std.proofs.Common.{sym, ◌∙◌}
use Rattle.bx_model.specs.Writing.{setattr}
use Rattle.bx_tree_files.specs.Changes.{with_fields}
use Rattle.bx_sizes.proofs.First.{sets_freely}
use Rattle.bx_sizes.proofs.Set.{change, set_first, size_stops}
use Rattle.bx_sizes.proofs.setting.set_all.Goals as goal

pub returns-in-Err-clause-step : goal.returns-in-Err-clause-step
returns-in-Err-clause-step g c = λ truth tree bytes few same s fit f is.
    size_stops c.args.volume.0 c.args.volume.1 truth tree (with_fields c.args.now c.args.sattr.now f.file) (setattr tree c.args.call.now bytes c.args.sattr.now c.args.now) c.in-Err.stop
    (c.in-Err.ensures.step truth tree f.file few same s.is fit f.holds f.there)

pub returns-in_ok-words-in-Ok-clause-step : goal.returns-in_ok-words-in-Ok-clause-step
returns-in_ok-words-in-Ok-clause-step g c = λ truth tree bytes few same s fit f is.
    change c.args.volume.0 c.args.volume.1 truth tree bytes c.args.call.now c.args.sattr.now c.args.now c.args.handle c.args.inode s f is c.in-Ok.draft c.in-Ok.inode c.in_ok-words-in-Ok.words
    (sym c.if-branch.false ∙ c.in_ok-is_forbidden.ensures) (rw c.in_default.is at c.in_ok-status.ensures) (c.in-Ok.ensures.step truth tree f.file few same s.is fit f.holds f.there) c.in_ok-words-in-Ok.ensures

pub returns-in_ok-words-in-Ok-clause-hints : goal.returns-in_ok-words-in-Ok-clause-hints
returns-in_ok-words-in-Ok-clause-hints g c = λ hints truth tree few same s fit f all. (c.in-Ok.ensures.step truth tree f.file few same s.is fit f.holds f.there).leads hints all

pub returns-in-Err-clause-lacks : goal.returns-in-Err-clause-lacks
returns-in-Err-clause-lacks g c = λ truth tree bytes few same s fit f is.
    set_first c.args.volume.0 c.args.volume.1 truth tree bytes c.args.call.now c.args.sattr.now c.args.now c.args.handle c.args.inode s f is
    (sym c.if-branch.false ∙ c.in_ok-is_forbidden.ensures) (rw c.in_default.is at c.in_ok-status.ensures) c.requires.given c.in-Err.stop
    (c.in-Err.ensures.lacks truth tree f.file few same s.is fit f.holds f.there)

pub returns-in_ok-words-in-Ok-clause-ready : goal.returns-in_ok-words-in-Ok-clause-ready
returns-in_ok-words-in-Ok-clause-ready g c = λ truth tree bytes few same s fit f is.
    sets_freely c.args.volume.0 c.args.volume.1 truth tree bytes c.args.handle c.args.sattr.now.size c.args.inode s.is is f.holds c.in-Ok.ensures.ready
