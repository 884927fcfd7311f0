use Rattle.std.proofs.Common.{sym, ap, ◌∙◌}
use Rattle.bx_layout.specs.declared.inode.Inode.{Inode}
use Rattle.bx_changes.proofs.AttributesSet.{change}
use Rattle.bx_changes.proofs.attributes.with_attributes.Goals as goal

pub returns-clause-step : goal.returns-clause-step
returns-clause-step c = λ areas truth tree bytes s f is.
    change c.args.volume areas truth tree bytes c.args.call.now c.args.sattr.now c.args.now c.args.handle c.args.inode c.requires.given s f is c.in-Ok.made.0 c.in-Ok.made.1 c.with_given-changed.result c.with_given-changed.ensures.is
    (sym c.in-Ok-false.field-0-test ∙ c.in-Ok-false.ensures) c.in-Ok.ensures.tells c.in-Ok.ensures.tree

pub returns-clause-hints : goal.returns-clause-hints
returns-clause-hints c = λ areas hints truth chunked holds fit. c.in-Ok.ensures.hints areas hints truth c.args.inode chunked holds (ap (λ (i : Inode). i.tree) c.with_given-changed.ensures.is) fit
