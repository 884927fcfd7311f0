use Rattle.std.proofs.Common.{arith}
use Rattle.std.proofs.lemmas.Grind.{common_steps}
use Rattle.std.proofs.lemmas.List.Elements.{filter_map-append}
use Rattle.bx_lock_tables.proofs.accounts.rows_at.Goals as goal

pub loop-account-preserved : goal.loop-account-preserved
loop-account-preserved c = grind (arith, common_steps, filter_map-append)
