use Rattle.std.proofs.Common.{◌≡◌, ◌+◌, drop}
use Rattle.bx_lock_tables.specs.Accounts.{place}
use Rattle.bx_lock_tables.proofs.accounts.place_of.Given as goal

abbrev pub invariant-loop-at : goal.invariant-loop-at
invariant-loop-at l = l.at + place (drop l.at l.accounts) l.session ≡ place l.accounts l.session
