use Rattle.std.proofs.Common.{refl}
use Rattle.bx_page.specs.Spelling.{page_bytes}
use Rattle.bx_page.proofs.Whole.{one_page}
use Rattle.bx_page.proofs.laws.one_reading.Goals as goal

pub returns-clause-spelled : goal.returns-clause-spelled
returns-clause-spelled c = λ a b bytes s t. one_page a b bytes s t

pub returns-clause-written : goal.returns-clause-written
returns-clause-written c = λ a b p q e. one_page a b (page_bytes a) record { is = p; parts = refl } record { is = q; parts = e }
