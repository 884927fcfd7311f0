use Rattle.std.proofs.Common.{◌∙◌}
use Rattle.bx_lock_tables.proofs.Opening.{mark_put}
use Rattle.bx_lock_tables.proofs.accounts.mark_expiring.Goals as goal

pub returns : goal.returns
returns c = mark_put c.args.accounts.now.items c.find_or_add.new.accounts.items c.args.session c.in_ok-at.at c.index_mut.result.now c.in_ok-at.ensures.opens (c.index_mut.ensures.value ∙ c.in_ok-at.ensures.opens.here c.index_mut.result.now)
