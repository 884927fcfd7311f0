use Rattle.std.proofs.Common.{◌≡◌, List, ℕ, ◌++◌, ap, ◌∙◌, rules}
use Rattle.bx_base.specs.Text.{ended}
use Rattle.bx_script.specs.ScheduleLine.{spelling}
use Rattle.bx_script.specs.declared.line.Line.TheVariants.{Heading}
use Rattle.bx_generated.specs.Progress.{Progress}
use Rattle.bx_generated.specs.Schedules.{generated_text}
use Rattle.bx_make.specs.Feeding.{text_left}
use Rattle.bx_make.proofs.Feeds.{whole}
use Rattle.bx_make.proofs.source.GeneratedSource.new.Goals as goal

pub returns-clause-text : goal.returns-clause-text
returns-clause-text c =
    let new = c.new-generated.ensures in
    let put : c.put_heading.new.text.items ≡ c.new-text.result.items ++ ended (spelling (Heading c.new-generated.result.seed c.new-generated.result.nodes 1 2)) = c.in_ok-put_heading.ensures in
    rw (put, c.new-text.ensures.items, new) (whole c.args.seed c.args.nodes c.args.calls)
