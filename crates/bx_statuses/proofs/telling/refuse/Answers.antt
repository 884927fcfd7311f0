use Rattle.std.proofs.Common.{◌≡◌, ◌∙◌, ap, sym}
use Rattle.bx_rack_commands.specs.declared.failure.Failure.TheVariants as failures
use Rattle.bx_statuses.proofs.Reports.{told_as}
use Rattle.bx_statuses.specs.Report.{refusal_line}
use Rattle.bx_statuses.proofs.telling.refuse.Goals as goal

pub returns-in-Ok-clause-refused : goal.returns-in-Ok-clause-refused
returns-in-Ok-clause-refused g c = λ refusal is seven tells.
    let both : failures.Refused c.in-Refused.refusal ≡ failures.Refused refusal = sym c.in-Refused.is ∙ is in
    let same : c.in-Refused.refusal ≡ refusal = cc in
    told_as _ _ _ _ c.as_bytes.result.now _ (c.as_bytes.ensures.value ∙ c.in-Ok.ensures ∙ ap refusal_line same) (c.tell.ensures tells)
