use Rattle.std.proofs.Common.{refl}
use Rattle.bx_clean.specs.Tidying.{cleans, stopped, unread}
use Rattle.bx_clean.proofs.tidying.tidy_held.Goals as goal

pub returns-in-Err : goal.returns-in-Err
returns-in-Err g c = unread c.in-Err.error c.in-Err.ensures.at c.stopped.ensures

pub returns-in-Err-clean_file : goal.returns-in-Err-clean_file
returns-in-Err-clean_file g c =
    stopped c.in-Ok-Some.handle c.in-Err-clean_file.error (rw c.in-Ok-Some.field-0-is at c.in-Ok-Some.ensures.at) c.in-Err-clean_file.ensures c.stopped-in-Err-clean_file.ensures

pub returns-in-Ok : goal.returns-in-Ok
returns-in-Ok g c = cleans c.in-Ok-Some.handle c.in-Ok.draft (rw c.in-Ok-Some.field-0-is at c.in-Ok-Some.ensures.at) c.in-Ok.ensures refl
