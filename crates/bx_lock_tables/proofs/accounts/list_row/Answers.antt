use Rattle.std.proofs.Common.{◌∙◌}
use Rattle.bx_lock_tables.proofs.Opening.{row_put}
use Rattle.bx_lock_tables.proofs.accounts.list_row.Goals as goal

pub returns : goal.returns
returns c = row_put c.args.accounts.now.items c.find_or_add.new.accounts.items c.args.session c.in_ok-at.at c.args.block c.args.row c.index_mut.result.now c.put.new.self c.in_ok-at.ensures.opens (c.index_mut.ensures.value ∙ c.in_ok-at.ensures.opens.here c.index_mut.result.now) c.in_ok-put.ensures.ok
