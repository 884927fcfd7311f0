use Rattle.std.proofs.Common.{ℕ, min, ap, ◌∙◌}
use Rattle.bx_audit_bodies.proofs.PiecesRead.{part_taken}
use Rattle.bx_audit_bodies.proofs.contents.part_below.Goals as goal

pub returns : goal.returns
returns c = part_taken c.args.payload.now c.min-end.result c.args.place (c.min-end.ensures ∙ ap (λ (n : ℕ). min n c.args.place) c.min.ensures)
