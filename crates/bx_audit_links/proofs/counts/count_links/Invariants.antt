use Rattle.std.proofs.Common.{◌≡◌, ℕ, ◌+◌}
use Rattle.bx_audit_links.specs.Counted.{count_in, kept}
use Rattle.bx_model.specs.FileTrees.{links_to}
use Rattle.bx_audit_links.proofs.counts.count_links.Given as goal

-- what is counted so far, and what is left
abbrev pub invariant-loop-file : goal.invariant-loop-file
invariant-loop-file l = (handle : ℕ) → (so_far : ℕ) × (count_in l.counts handle ≡ kept so_far) × (so_far + links_to l.file-iterator handle ≡ links_to l.files handle)
