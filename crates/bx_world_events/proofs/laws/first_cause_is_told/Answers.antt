use Rattle.bx_world_events.proofs.Refused.{first_told, none_stands}
use Rattle.bx_world_events.proofs.laws.first_cause_is_told.Goals as goal

pub returns-clause-told : goal.returns-clause-told
returns-clause-told c = first_told

pub returns-clause-none : goal.returns-clause-none
returns-clause-none c = none_stands
