use Rattle.std.proofs.Common.{ap, ◌∙◌, arith}
use Rattle.bx_cell.specs.Halves.{is_open}
use Rattle.bx_cell.proofs.Gates.{gate_read, open_text}
use Rattle.bx_cell.proofs.steps.open_gate.Goals as goal

pub returns-clause-opened : goal.returns-clause-opened
returns-clause-opened g c = λ tells.
    ap is_open (gate_read _ c.args.disk c.args.sector c.write.new.into (omega arith) (c.in_ok-write_through.ensures.written tells))
    ∙ ap is_open c.write.ensures ∙ open_text
