use Rattle.std.proofs.Common.{ℕ, List, ◌++◌, ap, subst, sym, ◌∙◌}
use Rattle.bx_rack_commands.proofs.Checked.{breaks_off}
use Rattle.bx_rack_commands.specs.Checks.{BreaksOff}
use Rattle.bx_rack_commands.proofs.checks.check.Goals as goal

pub returns-in-Err-clause-breaks : goal.returns-in-Err-clause-breaks
returns-in-Err-clause-breaks g c = λ tells tree stands. subst BreaksOff (sym c.from.ensures) (breaks_off c.in-Err.error (c.in-Err.ensures.breaks tells tree stands))

pub returns-in-Ok-write_all-clause-stands : goal.returns-in-Ok-write_all-clause-stands
returns-in-Ok-write_all-clause-stands g c = λ tells sink tree stands.
    c.in-Ok-write_all.ensures.ok sink ∙ ap (λ (text : List ℕ). g.K.Sink.written c.args.out.now ++ text) (c.bytes.ensures ∙ c.in-Ok.ensures.stands tells tree stands)
