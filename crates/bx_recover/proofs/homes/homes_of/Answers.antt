use Rattle.bx_logs.specs.Newest.{newest_at}
use Rattle.bx_recover.proofs.Newest.{newest_fit}
use Rattle.bx_recover.proofs.homes.homes_of.Goals as goal

pub runs_of-requires-clause-blocks : goal.runs_of-requires-clause-blocks
runs_of-requires-clause-blocks c = λ at. newest_fit c.args.areas c.args.records.now (newest_at c.in_ok-newest.newest at) at c.requires.logged (c.in_ok-newest.ensures at)
