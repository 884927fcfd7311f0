use Rattle.std.proofs.Common.{refl}
use Rattle.std.specs.Prelude.{true, false}
use Rattle.bx_members.proofs.Kept.{keeps_then, leaves_next}
use Rattle.bx_members.proofs.members.put_both.Goals as goal

pub returns-in_err-put_run-clause-keeps : goal.returns-in_err-put_run-clause-keeps
returns-in_err-put_run-clause-keeps g c = λ writes greatest tells taken. c.put_run.ensures.keeps writes greatest false tells refl taken

pub returns-in_err-put_run-clause-any_moment : goal.returns-in_err-put_run-clause-any_moment
returns-in_err-put_run-clause-any_moment g c = λ writes greatest tells taken. c.put_run.ensures.any_moment writes greatest false tells refl taken

pub returns-in_err-put_run-2-clause-keeps : goal.returns-in_err-put_run-2-clause-keeps
returns-in_err-put_run-2-clause-keeps g c = λ writes greatest tells taken.
    keeps_then _ _ _ _ _ (c.put_run.ensures.keeps writes greatest false tells refl taken) (c.put_run-2.ensures.keeps writes greatest true (c.put_run.ensures.rack.keeps_telling tells) refl taken)

pub returns-in_err-put_run-2-clause-any_moment : goal.returns-in_err-put_run-2-clause-any_moment
returns-in_err-put_run-2-clause-any_moment g c = λ writes greatest tells taken.
    leaves_next _ _ _ _ _ _ _ _ _ _ (c.put_run.ensures.any_moment writes greatest false tells refl taken) (c.put_run.ensures.keeps writes greatest false tells refl taken)
    (c.put_run-2.ensures.any_moment writes greatest true (c.put_run.ensures.rack.keeps_telling tells) refl taken)

pub returns-clause-keeps : goal.returns-clause-keeps
returns-clause-keeps g c = λ writes greatest tells taken.
    keeps_then _ _ _ _ _ (c.put_run.ensures.keeps writes greatest false tells refl taken) (c.put_run-2.ensures.keeps writes greatest true (c.put_run.ensures.rack.keeps_telling tells) refl taken)

pub returns-clause-any_moment : goal.returns-clause-any_moment
returns-clause-any_moment g c = λ writes greatest tells taken.
    leaves_next _ _ _ _ _ _ _ _ _ _ (c.put_run.ensures.any_moment writes greatest false tells refl taken) (c.put_run.ensures.keeps writes greatest false tells refl taken)
    (c.put_run-2.ensures.any_moment writes greatest true (c.put_run.ensures.rack.keeps_telling tells) refl taken)
