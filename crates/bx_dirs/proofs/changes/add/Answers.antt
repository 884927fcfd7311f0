use Rattle.bx_dirs.specs.Changes.{entry_of}
use Rattle.bx_dirs.proofs.ChangesDone.{adds_fair, adds_held, adds_tree}
use Rattle.bx_dirs.proofs.EntriesChanged.{adds_in}
use Rattle.bx_dirs.proofs.changes.add.Goals as goal

pub returns-clause-list : goal.returns-clause-list
returns-clause-list g c = λ areas truth names h above.
    adds_in areas (g.V.View.held c.args.view.now) (g.V.View.hints c.args.view.now) truth c.args.draft.now c.add_entry.new.draft c.args.root h.tree names (entry_of c.args.number c.args.name.now c.args.handle) h.under h.entries
    c.ranges.number.fits c.ranges.handle.fits above c.add_entry.result c.add_entry.ensures.ends

pub returns-clause-tree : goal.returns-clause-tree
returns-clause-tree g c = λ areas truth tree directory file parent next names d above.
    adds_tree areas (g.V.View.held c.args.view.now) (g.V.View.hints c.args.view.now) truth c.args.draft.now c.add_entry.new.draft c.args.root tree directory file parent next names d
    (entry_of c.args.number c.args.name.now c.args.handle) c.ranges.number.fits c.ranges.handle.fits above c.add_entry.result c.add_entry.ensures.ends

pub returns-clause-fair : goal.returns-clause-fair
returns-clause-fair g c =
    adds_fair (g.V.View.held c.args.view.now) (g.V.View.hints c.args.view.now) c.args.draft.now c.add_entry.new.draft c.args.root (entry_of c.args.number c.args.name.now c.args.handle)
    (g.met.V.View.shares c.args.view.now) c.add_entry.result c.add_entry.ensures.ends

pub returns-clause-held : goal.returns-clause-held
returns-clause-held g c = λ before.
    adds_held (g.V.View.held c.args.view.now) (g.V.View.hints c.args.view.now) c.args.draft.now c.add_entry.new.draft c.args.root (entry_of c.args.number c.args.name.now c.args.handle)
    before c.add_entry.result c.add_entry.ensures.ends
