use Rattle.bx_audit_pages.proofs.Firsts.{if_first}
use Rattle.bx_audit_pages.proofs.trees.first_handle.Goals as goal

pub returns-clause-some : goal.returns-clause-some
returns-clause-some c = if_first c.args.page.now.entries c.in_ok-entry.entry.now c.handle_in.result c.in_ok-entry.ensures c.handle_in.ensures.some
