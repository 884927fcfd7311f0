use Rattle.std.proofs.Common.{◌≡◌, take}
use Rattle.bx_lock_tables.specs.Accounts.{rows_at}
use Rattle.bx_lock_tables.proofs.accounts.rows_at.Given as goal

abbrev pub invariant-loop-account : goal.invariant-loop-account
invariant-loop-account l = l.rows.items ≡ rows_at (take l.account-index l.accounts) l.block
