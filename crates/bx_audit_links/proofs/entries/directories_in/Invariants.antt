use Rattle.std.proofs.Common.{◌≡◌, ℕ, ◌+◌}
use Rattle.std.specs.Prelude.{count_by}
use Rattle.bx_model.specs.FileTrees.{is_directory_at}
use Rattle.bx_audit_links.specs.Counted.{kept}
use Rattle.bx_audit_links.proofs.entries.directories_in.Given as goal

abbrev pub invariant-loop-entry : goal.invariant-loop-entry
invariant-loop-entry l = (so_far : ℕ) × (l.count ≡ kept so_far)
    × (so_far + count_by (λ entry. is_directory_at l.files entry.handle) l.entry-iterator ≡ count_by (λ entry. is_directory_at l.files entry.handle) l.names)
