use Rattle.std.proofs.Common.{ℕ, sym, subst}
use Rattle.bx_dirs.specs.Changes.{TakesAt}
use Rattle.bx_dirs.proofs.ChangesDone.{takes_fair, takes_held, takes_tree}
use Rattle.bx_dirs.proofs.EntriesChanged.{takes_in}
use Rattle.bx_dirs.proofs.changes.take.Goals as goal

pub returns-clause-list : goal.returns-clause-list
returns-clause-list g c = λ areas truth names entry h found number.
    takes_in areas (g.V.View.held c.args.view.now) (g.V.View.hints c.args.view.now) truth c.args.draft.now c.take_entry.new.draft c.args.root h.tree names c.args.name.now entry h.under h.entries found c.take_entry.result
    (subst (λ (n : ℕ). TakesAt (g.V.View.held c.args.view.now) (g.V.View.hints c.args.view.now) c.args.draft.now c.take_entry.new.draft c.args.root n c.args.name.now c.take_entry.result) (sym number) c.take_entry.ensures.ends)

pub returns-clause-tree : goal.returns-clause-tree
returns-clause-tree g c = λ areas truth tree directory file parent next names entry d found number.
    takes_tree areas (g.V.View.held c.args.view.now) (g.V.View.hints c.args.view.now) truth c.args.draft.now c.take_entry.new.draft c.args.root tree directory file parent next names d c.args.name.now entry found c.take_entry.result
    (subst (λ (n : ℕ). TakesAt (g.V.View.held c.args.view.now) (g.V.View.hints c.args.view.now) c.args.draft.now c.take_entry.new.draft c.args.root n c.args.name.now c.take_entry.result) (sym number) c.take_entry.ensures.ends)

pub returns-clause-fair : goal.returns-clause-fair
returns-clause-fair g c =
    takes_fair (g.V.View.held c.args.view.now) (g.V.View.hints c.args.view.now) c.args.draft.now c.take_entry.new.draft c.args.root c.args.number c.args.name.now
    (g.met.V.View.shares c.args.view.now) c.take_entry.result c.take_entry.ensures.ends

pub returns-clause-held : goal.returns-clause-held
returns-clause-held g c = λ before.
    takes_held (g.V.View.held c.args.view.now) (g.V.View.hints c.args.view.now) c.args.draft.now c.take_entry.new.draft c.args.root c.args.number c.args.name.now before c.take_entry.result c.take_entry.ensures.ends
