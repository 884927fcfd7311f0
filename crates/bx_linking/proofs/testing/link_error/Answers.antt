use Rattle.std.proofs.Common.{inl, inr, arith}
use Rattle.bx_linking.proofs.Tested.{absent, exists, no_error, quota, stopped_search}
use Rattle.bx_linking.proofs.testing.link_error.Goals.{then-file-ge-MOST_LINKS-via-then-file-ge-MOST_LINKS, then-file-ge-MOST_LINKS-via-else-file-ge-MOST_LINKS+then-directory-ge-LAST_NUMBER}
use Rattle.bx_linking.proofs.testing.link_error.Goals as goal

pub returns-in-Err-clause-step : goal.returns-in-Err-clause-step
returns-in-Err-clause-step g c = λ volume truth tree is.
    stopped_search volume c.args.areas (g.V.View.held c.args.view.now) (g.V.View.hints c.args.view.now) truth tree c.args.file.now.handle c.args.file.now.inode c.args.directory.now.handle c.args.directory.now.inode c.args.name.now is c.in-Err.stop c.in-Err.ensures.list

pub returns-in-Ok-Some-clause-step : goal.returns-in-Ok-Some-clause-step
returns-in-Ok-Some-clause-step g c = λ volume truth tree is.
    exists volume c.args.areas (g.V.View.held c.args.view.now) (g.V.View.hints c.args.view.now) truth tree c.args.file.now.handle c.args.file.now.inode c.args.directory.now.handle c.args.directory.now.inode c.args.name.now is c.if-file-eq-DIRECTORY.false c.in-Ok-Some.field-0 _ c.in-Ok-Some.field-0-is c.in-Ok-Some.ensures.list

pub returns-then-file-ge-MOST_LINKS-clause-step : goal.returns-then-file-ge-MOST_LINKS-clause-step
returns-then-file-ge-MOST_LINKS-clause-step g c = λ volume truth tree is.
    quota volume c.args.areas (g.V.View.held c.args.view.now) (g.V.View.hints c.args.view.now) truth tree c.args.file.now.handle c.args.file.now.inode c.args.directory.now.handle c.args.directory.now.inode c.args.name.now is c.if-file-eq-DIRECTORY.false (absent volume c.args.areas (g.V.View.held c.args.view.now) (g.V.View.hints c.args.view.now) truth tree c.args.file.now.handle c.args.file.now.inode c.args.directory.now.handle c.args.directory.now.inode c.args.name.now is c.in-Ok-None.field-0 c.in-Ok-None.field-0-is c.in-Ok-None.ensures.list)
    (elim c.then-file-ge-MOST_LINKS.branch [
      | then-file-ge-MOST_LINKS-via-then-file-ge-MOST_LINKS w ↦ inl w.if-file-ge-MOST_LINKS.true
      | then-file-ge-MOST_LINKS-via-else-file-ge-MOST_LINKS+then-directory-ge-LAST_NUMBER w ↦ inr w.if-directory-ge-LAST_NUMBER.true
    ])

pub returns-else-directory-ge-LAST_NUMBER-clause-step : goal.returns-else-directory-ge-LAST_NUMBER-clause-step
returns-else-directory-ge-LAST_NUMBER-clause-step g c = λ volume truth tree is.
    no_error volume c.args.areas (g.V.View.held c.args.view.now) (g.V.View.hints c.args.view.now) truth tree c.args.file.now.handle c.args.file.now.inode c.args.directory.now.handle c.args.directory.now.inode c.args.name.now is c.if-file-eq-DIRECTORY.false (absent volume c.args.areas (g.V.View.held c.args.view.now) (g.V.View.hints c.args.view.now) truth tree c.args.file.now.handle c.args.file.now.inode c.args.directory.now.handle c.args.directory.now.inode c.args.name.now is c.in-Ok-None.field-0 c.in-Ok-None.field-0-is c.in-Ok-None.ensures.list)
    (let few = c.if-file-ge-MOST_LINKS.false in omega (arith, few)) (let left = c.if-directory-ge-LAST_NUMBER.false in omega (arith, left))
