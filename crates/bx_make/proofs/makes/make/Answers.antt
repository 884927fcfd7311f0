use Rattle.std.proofs.Common.{◌≡◌, ◌++◌, List, ℕ, ap, ◌∙◌}
use Rattle.bx_base.specs.Faults.{Rose}
use Rattle.bx_replay.specs.Outcome.{IsShownBy}
use Rattle.bx_make.specs.Counts.{seen_text}
use Rattle.bx_make.specs.Makes.{IsMadeInPart}
use Rattle.bx_make.proofs.Made.{made_part, made_whole, write_part}
use Rattle.bx_make.proofs.makes.make.Goals as goal

pub returns-in_err-write_all-clause-part : goal.returns-in_err-write_all-clause-part
returns-in_err-write_all-clause-part g c = λ tells.
    let MayStop = Rose (g.B.Rack.faults c.args.bench.now) (g.B.Rack.faults c.traced.new.bench) in
    let Stands = IsShownBy (g.B.Rack.state c.traced.new.bench) in
    let text : c.in_ok-text.text.items ≡ seen_text c.args.plan.calls c.in_ok-trace.trace.written = c.in_ok-text.ensures ∙ ap (seen_text c.args.plan.calls) c.bytes.ensures in
    let part = rw c.as_slice.ensures.value at (c.in_err-write_all.ensures.part tells.0) in
    write_part c.from_residual-in_err-write_all.result (g.K.Sink.written c.args.out.now) (g.K.Sink.written c.write_all.new.sink) (IsMadeInPart MayStop c.args.plan.seed c.args.plan.nodes c.args.plan.calls Stands)
    c.from_residual-in_err-write_all.ensures.1
    (made_part MayStop c.args.plan.seed c.args.plan.nodes c.args.plan.calls Stands c.in_ok-trace.trace.written c.in_ok-text.text.items (c.in_ok-trace.ensures.replayed tells.1) text
    (g.K.Sink.written c.args.out.now) (g.K.Sink.written c.write_all.new.sink) part)

pub returns-clause-made : goal.returns-clause-made
returns-clause-made g c = λ tells.
    let text : c.in_ok-text.text.items ≡ seen_text c.args.plan.calls c.in_ok-trace.trace.written = c.in_ok-text.ensures ∙ ap (seen_text c.args.plan.calls) c.bytes.ensures in
    made_whole (Rose (g.B.Rack.faults c.args.bench.now) (g.B.Rack.faults c.traced.new.bench)) c.args.plan.seed c.args.plan.nodes c.args.plan.calls (IsShownBy (g.B.Rack.state c.traced.new.bench))
    c.in_ok-trace.trace.written c.in_ok-text.text.items (c.in_ok-trace.ensures.replayed tells.1) text (g.K.Sink.written c.args.out.now) (g.K.Sink.written c.write_all.new.sink)
    (c.in_ok-write_all.ensures.ok tells.0 ∙ ap (λ (t : List ℕ). g.K.Sink.written c.args.out.now ++ t) c.as_slice.ensures.value)
