use Rattle.std.proofs.Common.{Err, Ok, sym}
use Rattle.std.specs.Prelude.{if◌then◌else◌, replicate}
use Rattle.bx_tree_files.specs.declared.file.Body.TheVariants.{Bytes}
use Rattle.bx_tree_files.specs.Times.{is_given}
use Rattle.bx_creating.specs.Inodes.{file_inode}
use Rattle.bx_creating.proofs.NewFiles.{enough, full, keeps, last, last_told, makes_it, not_made, place, placed_file, refused_so}
use Rattle.bx_entries.specs.Lacking.{MakesEither}
use Rattle.bx_creating.proofs.First.{made_first}
use Rattle.bx_model.specs.Making.{create_new}
use Rattle.bx_creating.proofs.files.create_new.Goals as goal

pub returns-in-Ok-Some-clause-step : goal.returns-in-Ok-Some-clause-step
returns-in-Ok-Some-clause-step g c = λ truth tree w.
    refused_so c.args.volume c.args.areas (g.V.View.held c.args.view.now) (g.V.View.hints c.args.view.now) truth tree c.args.directory.handle c.args.directory.inode c.args.name.now w c.args.call.now c.args.sattr.now c.args.now
    c.requires.live.has.spells.is.next c.in-Ok-Some.status (sym (rw c.in-Ok-Some.field-0-is at c.in-Ok-Some.ensures))

pub returns-in-Err-place_new-clause-step : goal.returns-in-Err-place_new-clause-step
returns-in-Err-place_new-clause-step g c = λ truth tree w.
    let fits = c.requires.live.has.spells.is.next in
    let none = sym (rw c.in-Ok-None.field-0-is at c.in-Ok-None.ensures) in
    not_made c.args.volume c.args.areas truth tree w.directory.stands _
    (last c.args.volume c.args.areas (g.V.View.held c.args.view.now) (g.V.View.hints c.args.view.now) truth tree c.args.directory.handle c.args.directory.inode c.args.name.now w c.args.call.now c.args.sattr.now c.args.now)
    (enough c.args.volume c.args.areas (g.V.View.held c.args.view.now) (g.V.View.hints c.args.view.now) truth tree c.args.directory.handle c.args.directory.inode c.args.name.now w c.args.call.now c.args.sattr.now c.args.now fits none)
    (full c.args.volume c.args.areas (g.V.View.held c.args.view.now) (g.V.View.hints c.args.view.now) truth tree c.args.directory.handle c.args.directory.inode c.args.name.now w c.args.call.now c.args.sattr.now c.args.now fits none)
    c.args.directory.handle c.args.name.now c.args.now (file_inode c.args.call.now c.args.sattr.now c.args.now) (Bytes (replicate (if is_given c.args.sattr.now.size then c.args.sattr.now.size else 0) 0)) c.in-Err-place_new.error
    (placed_file c.args.volume c.args.areas (g.V.View.held c.args.view.now) (g.V.View.hints c.args.view.now) truth tree c.args.directory.handle c.args.directory.inode c.args.name.now w c.args.call.now c.args.sattr.now c.args.now fits none
    c.file_inode-inode.result (Err c.in-Err-place_new.error) c.file_inode-inode.ensures.is
    (λ body new. c.in-Err-place_new.ensures.step c.args.volume truth tree body
    (place c.args.volume c.args.areas (g.V.View.held c.args.view.now) (g.V.View.hints c.args.view.now) truth tree c.args.directory.handle c.args.directory.inode c.args.name.now w c.args.call.now c.args.sattr.now c.args.now fits none) new))

pub returns-in-Ok-told_of-clause-step : goal.returns-in-Ok-told_of-clause-step
returns-in-Ok-told_of-clause-step g c = λ truth tree w.
    let fits = c.requires.live.has.spells.is.next in
    let none = sym (rw c.in-Ok-None.field-0-is at c.in-Ok-None.ensures) in
    makes_it c.args.volume c.args.areas truth tree w.directory.stands _
    (last c.args.volume c.args.areas (g.V.View.held c.args.view.now) (g.V.View.hints c.args.view.now) truth tree c.args.directory.handle c.args.directory.inode c.args.name.now w c.args.call.now c.args.sattr.now c.args.now)
    (enough c.args.volume c.args.areas (g.V.View.held c.args.view.now) (g.V.View.hints c.args.view.now) truth tree c.args.directory.handle c.args.directory.inode c.args.name.now w c.args.call.now c.args.sattr.now c.args.now fits none)
    (full c.args.volume c.args.areas (g.V.View.held c.args.view.now) (g.V.View.hints c.args.view.now) truth tree c.args.directory.handle c.args.directory.inode c.args.name.now w c.args.call.now c.args.sattr.now c.args.now fits none)
    c.args.directory.handle c.args.name.now c.args.now (file_inode c.args.call.now c.args.sattr.now c.args.now) (Bytes (replicate (if is_given c.args.sattr.now.size then c.args.sattr.now.size else 0) 0)) c.in-Ok.draft
    c.in-Ok-told_of.reply c.in-Ok.made
    (placed_file c.args.volume c.args.areas (g.V.View.held c.args.view.now) (g.V.View.hints c.args.view.now) truth tree c.args.directory.handle c.args.directory.inode c.args.name.now w c.args.call.now c.args.sattr.now c.args.now fits none
    c.file_inode-inode.result (Ok (c.in-Ok.draft, c.in-Ok.made)) c.file_inode-inode.ensures.is
    (λ body new. c.in-Ok.ensures.step c.args.volume truth tree body
    (place c.args.volume c.args.areas (g.V.View.held c.args.view.now) (g.V.View.hints c.args.view.now) truth tree c.args.directory.handle c.args.directory.inode c.args.name.now w c.args.call.now c.args.sattr.now c.args.now fits none) new))
    (last_told c.args.volume c.args.areas (g.V.View.held c.args.view.now) (g.V.View.hints c.args.view.now) truth tree c.args.directory.handle c.args.directory.inode c.args.name.now w c.args.call.now c.args.sattr.now c.args.now fits none
    c.in-Ok.made c.file_inode-inode-in-Ok.result c.in-Ok-told_of.reply c.file_inode-inode-in-Ok.ensures.is c.in-Ok-told_of.ensures)
    (keeps c.args.volume c.args.areas (g.V.View.held c.args.view.now) (g.V.View.hints c.args.view.now) truth tree c.args.directory.handle c.args.directory.inode c.args.name.now w c.args.call.now c.args.sattr.now c.args.now fits none
    c.in-Ok.made)

pub returns-in-Ok-told_of-clause-hints : goal.returns-in-Ok-told_of-clause-hints
returns-in-Ok-told_of-clause-hints g c = λ other truth tree w other_fit.
    let fits = c.requires.live.has.spells.is.next in
    let none = sym (rw c.in-Ok-None.field-0-is at c.in-Ok-None.ensures) in
    let p = placed_file c.args.volume c.args.areas (g.V.View.held c.args.view.now) (g.V.View.hints c.args.view.now) truth tree c.args.directory.handle c.args.directory.inode c.args.name.now w c.args.call.now c.args.sattr.now c.args.now fits
    none c.file_inode-inode.result (Ok (c.in-Ok.draft, c.in-Ok.made)) c.file_inode-inode.ensures.is
    (λ body new. c.in-Ok.ensures.step c.args.volume truth tree body
    (place c.args.volume c.args.areas (g.V.View.held c.args.view.now) (g.V.View.hints c.args.view.now) truth tree c.args.directory.handle c.args.directory.inode c.args.name.now w c.args.call.now c.args.sattr.now c.args.now fits none) new) in
    p.leads other other_fit

pub returns-in-Err-place_new-clause-lacks : goal.returns-in-Err-place_new-clause-lacks
returns-in-Err-place_new-clause-lacks g c = λ truth tree w.
    let fits = c.requires.live.has.spells.is.next in
    let none = sym (rw c.in-Ok-None.field-0-is at c.in-Ok-None.ensures) in
    made_first (create_new tree c.args.call.now w.directory.at.file c.args.name.now c.args.sattr.now c.args.now 8) _
    (enough c.args.volume c.args.areas (g.V.View.held c.args.view.now) (g.V.View.hints c.args.view.now) truth tree c.args.directory.handle c.args.directory.inode c.args.name.now w c.args.call.now c.args.sattr.now c.args.now fits none)
    (MakesEither c.args.areas (g.V.View.held c.args.view.now) (g.V.View.hints c.args.view.now) truth c.args.directory.inode.tree c.args.name.now c.args.directory.inode.next) c.in-Err-place_new.error
    (c.in-Err-place_new.ensures.lacks c.args.volume truth tree w.directory)

pub returns-in-Ok-told_of-clause-finds : goal.returns-in-Ok-told_of-clause-finds
returns-in-Ok-told_of-clause-finds g c = λ truth tree w. c.in-Ok.ensures.finds c.args.volume truth tree w.directory
