use Rattle.bx_global.proofs.Rising.{epoch_rises, index_rises, next_rises, term_end_rises, term_rises}
use Rattle.bx_global_laws.proofs.laws.numbers_rise.Goals as goal

pub returns-clause-index : goal.returns-clause-index
returns-clause-index c = index_rises

pub returns-clause-term : goal.returns-clause-term
returns-clause-term c = term_rises

pub returns-clause-next_session : goal.returns-clause-next_session
returns-clause-next_session c = next_rises

pub returns-clause-epoch : goal.returns-clause-epoch
returns-clause-epoch c = epoch_rises

pub returns-clause-term_end : goal.returns-clause-term_end
returns-clause-term_end c = term_end_rises
