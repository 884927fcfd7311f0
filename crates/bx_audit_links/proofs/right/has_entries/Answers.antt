use Rattle.std.proofs.Common.{sym, subst}
use Rattle.bx_model.specs.FileTrees.{HasEntries}
use Rattle.bx_audit_links.proofs.right.has_entries.Goals as goal

pub returns-in-Names-clause-yes : goal.returns-in-Names-clause-yes
returns-in-Names-clause-yes c = λ yes.
    let apart = c.requires.apart _ _ _ c.in-Names.is in
    subst (HasEntries c.args.files.now c.args.file.now.handle) (sym c.in-Names.is) (record { each = c.are_entries.ensures.yes yes; rise = apart.rise; apart = apart.apart })

pub returns-in-Names-clause-no : goal.returns-in-Names-clause-no
returns-in-Names-clause-no c = λ no has. c.are_entries.ensures.no no (subst (HasEntries c.args.files.now c.args.file.now.handle) c.in-Names.is has).each
