use Rattle.std.proofs.Common.{◌≡◌, ◌++◌}
use Rattle.std.specs.Prelude.{map}
use Rattle.bx_audit_owners.proofs.walks.put_entries.Given as goal

-- what is left to be put is behind what was put
abbrev pub invariant-loop-entry : goal.invariant-loop-entry
invariant-loop-entry l = l.met.items ++ map (λ entry. entry.handle) l.entry-iterator ≡ l.fn.met.items ++ map (λ entry. entry.handle) l.names
