use Rattle.std.proofs.Common.{refl, subst, sym}
use Rattle.std.proofs.lemmas.Result.{IfOk-weaker}
use Rattle.bx_attempts.proofs.Fairness.{inner_fair}
use Rattle.bx_steps.specs.Steps.{StandsWith}
use Rattle.bx_clean.specs.Tidying.{IsClean, NeedsFor, OnTidyPath, TidiesIn}
use Rattle.bx_clean.specs.declared.tidying.Tidied.TheVariants.{Need, Inner, Clean}
use Rattle.bx_inodes.specs.declared.stop.Stop.TheVariants as stops
use Rattle.bx_model.specs.declared.reply.Reply.{Reply}
use Rattle.bx_views.specs.Attempts.{Tidies}
use Rattle.bx_attempts.proofs.tidying.tidy.Goals as goal

pub returns-in-Ok-Need-clause-fair : goal.returns-in-Ok-Need-clause-fair
returns-in-Ok-Need-clause-fair g c =
    let a = c.args in
    let held = g.V.View.held a.view.now in
    let needs : NeedsFor a.areas held a.area (Need c.in-Ok-Need.at c.in-Ok-Need.mode) = rw c.in-Ok-Need.field-0-is at c.in-Ok-Need.ensures.needs in
    IfOk-weaker c.stopped.result _ _
    (λ attempt is. inner_fair 0 a.areas held (OnTidyPath held a.areas a.area) attempt Reply (stops.Need c.in-Ok-Need.at c.in-Ok-Need.mode) needs tt is) c.stopped.ensures

pub returns-in-Ok-Inner-clause-gives : goal.returns-in-Ok-Inner-clause-gives
returns-in-Ok-Inner-clause-gives g c = λ volume truth tree same s.
    let tidies : TidiesIn c.args.areas truth c.args.area (Inner c.in-Ok-Inner.draft) = rw c.in-Ok-Inner.field-0-is at (c.in-Ok-Inner.ensures.gives volume truth tree same s.stands s.fit) in
    (tidies.0, record { each = λ hints was. record { stands = tidies.1.stands volume tree was.stands; fit = tidies.1.leads hints was.fit } })

pub returns-in-Ok-Inner-clause-gains : goal.returns-in-Ok-Inner-clause-gains
returns-in-Ok-Inner-clause-gains g c = λ volume truth tree same s.
    let tidies : TidiesIn c.args.areas truth c.args.area (Inner c.in-Ok-Inner.draft) = rw c.in-Ok-Inner.field-0-is at (c.in-Ok-Inner.ensures.gives volume truth tree same s.stands s.fit) in
    tidies.2

pub returns-in-Ok-Clean-clause-gives : goal.returns-in-Ok-Clean-clause-gives
returns-in-Ok-Clean-clause-gives g c = λ volume truth tree same s.
    let clean : TidiesIn c.args.areas truth c.args.area Clean = rw c.in-Ok-Clean.field-0-is at (c.in-Ok-Clean.ensures.gives volume truth tree same s.stands s.fit) in
    IfOk-weaker c.nothing_left.result _ _ (λ attempt is. subst (Tidies (StandsWith volume c.args.areas) (IsClean truth c.args.area) truth tree) (sym is) (clean, refl)) c.nothing_left.ensures
