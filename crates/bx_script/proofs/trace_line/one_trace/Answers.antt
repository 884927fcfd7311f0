use Rattle.bx_script.proofs.TraceLines.{trace_text_injective}
use Rattle.bx_script.proofs.trace_line.one_trace.Goals as goal

pub returns : goal.returns
returns c = trace_text_injective
