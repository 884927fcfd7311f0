use Rattle.bx_plain.specs.Fits.{end_in}
use Rattle.bx_plain.proofs.Granting.{end_stays}
use Rattle.bx_plain.proofs.Keeping.{fits_taken}
use Rattle.bx_plain.proofs.owners.PlainOwnersOwners.take.Goals as goal

pub returns-clause-keeps : goal.returns-clause-keeps
returns-clause-keeps c = λ past fits may. fits_taken c.args.self.now.nodes c.args.self.now.rows past c.args._out.now c.args._out.now c.args._at c.args._known.now.index c.args._input.now fits

pub returns-clause-ends : goal.returns-clause-ends
returns-clause-ends c = λ node session own still. end_stays (end_in c.args.self.now.nodes node)
