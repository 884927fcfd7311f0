use Rattle.std.proofs.Common.{Some}
use Rattle.bx_model.specs.Renaming.{replace_errors}
use Rattle.bx_renaming.specs.Renaming.{depth_errors}
use Rattle.bx_renaming.proofs.Tested.{failed_first, passed_first, stopped_first}
use Rattle.bx_renaming.proofs.testing.move_error.Goals as goal

pub returns-in-Err-clause-step : goal.returns-in-Err-clause-step
returns-in-Err-clause-step g c = λ volume truth tree are is at. stopped_first (depth_errors tree are.source.file are.target.file is.file) (replace_errors is.file (Some at.file)) c.in-Err.stop (c.in-Err.ensures.step volume truth tree are is)

pub returns-in-Ok-Some-clause-step : goal.returns-in-Ok-Some-clause-step
returns-in-Ok-Some-clause-step g c = λ volume truth tree are is at. failed_first (depth_errors tree are.source.file are.target.file is.file) (replace_errors is.file (Some at.file)) c.in-Ok-Some.status c.in-Ok-Some.field-0 c.in-Ok-Some.field-0-is (c.in-Ok-Some.ensures.step volume truth tree are is)

pub returns-in-Ok-None-clause-step : goal.returns-in-Ok-None-clause-step
returns-in-Ok-None-clause-step g c = λ volume truth tree are is at.
    passed_first (depth_errors tree are.source.file are.target.file is.file) (replace_errors is.file (Some at.file)) c.in-Ok-None.field-0 c.in-Ok-None.field-0-is (c.in-Ok-None.ensures.step volume truth tree are is) c.replace_error.result
    (c.replace_error.ensures.step volume truth tree is (record { few = are.few; same = are.same; stands = are.stands; fit = are.fit; at = at }))
