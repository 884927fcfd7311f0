use Rattle.bx_clean.specs.Puts.{puts}
use Rattle.bx_clean.proofs.puts.put_and_free.Goals as goal

pub returns : goal.returns
returns g c = puts c.in_ok-draft.draft c.in_ok-draft.ensures c.freed.ensures
