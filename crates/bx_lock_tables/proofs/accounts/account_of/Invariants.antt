use Rattle.std.proofs.Common.{◌≡◌, drop}
use Rattle.bx_lock_tables.specs.Accounts.{account_in}
use Rattle.bx_lock_tables.proofs.accounts.account_of.Given as goal

abbrev pub invariant-loop-account : goal.invariant-loop-account
invariant-loop-account l = account_in (drop l.account-index l.accounts) l.session ≡ account_in l.accounts l.session
