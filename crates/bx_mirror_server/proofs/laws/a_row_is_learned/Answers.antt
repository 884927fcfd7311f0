use Rattle.bx_mirror_server.proofs.Taking.{learns, starts, stops, syncs}
use Rattle.bx_mirror_server.proofs.laws.a_row_is_learned.Goals as goal

pub returns-clause-learns : goal.returns-clause-learns
returns-clause-learns c = learns

pub returns-clause-syncs : goal.returns-clause-syncs
returns-clause-syncs c = syncs

pub returns-clause-starts : goal.returns-clause-starts
returns-clause-starts c = starts

pub returns-clause-stops : goal.returns-clause-stops
returns-clause-stops c = stops
