use Rattle.bx_page.proofs.Maps.{put_value, taken_value}
use Rattle.bx_page.proofs.laws.is_a_map.Goals as goal

pub returns-clause-put : goal.returns-clause-put
returns-clause-put c = λ page key value other. put_value page key value other

pub returns-clause-taken : goal.returns-clause-taken
returns-clause-taken c = λ page key other. taken_value page key other
