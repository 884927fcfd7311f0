use Rattle.bx_script.proofs.Spelled.{spelling_injective, short_spelling, spelling_lacks_feed}
use Rattle.bx_script.proofs.line.one_spelling.Goals as goal

pub returns-clause-same : goal.returns-clause-same
returns-clause-same c = spelling_injective

pub returns-clause-short : goal.returns-clause-short
returns-clause-short c = short_spelling

pub returns-clause-lacks_feed : goal.returns-clause-lacks_feed
returns-clause-lacks_feed c = spelling_lacks_feed
