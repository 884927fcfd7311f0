use Rattle.std.proofs.Common.{rules}
use Rattle.std.proofs.lemmas.Fn.{filter_same}
use Rattle.bx_lock_tables.specs.Accounts.{has_row}
use Rattle.bx_lock_tables.proofs.accounts.forget.Goals as goal

pub returns : goal.returns
returns c = filter_same _ (λ account. has_row c.args.known.now account.session) _ (λ x b f h. search rules) _ _ c.retain.ensures.filtered
