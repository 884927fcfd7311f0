use Rattle.std.proofs.Common.{◌≡◌, ℕ, ◌+◌}
use Rattle.std.specs.Prelude.{◌==◌, count_by}
use Rattle.bx_audit_links.specs.Counted.{count_in, kept}
use Rattle.bx_audit_links.proofs.counts.count_names.Given as goal

abbrev pub invariant-loop-entry : goal.invariant-loop-entry
invariant-loop-entry l = (handle before : ℕ) → count_in l.initial.counts handle ≡ kept before
    → (so_far : ℕ) × (count_in l.counts handle ≡ kept so_far)
    × (so_far + count_by (λ entry. entry.handle == handle) l.entry-iterator ≡ before + count_by (λ entry. entry.handle == handle) l.names)
