use Rattle.std.proofs.Common.{◌≡◌, ◌∙◌, false, sym, ℕ, List, [], ◌∷◌, ◌++◌, Option, refl, ap, subst}
use Rattle.std.specs.Prelude.{IfSome}
use Rattle.bx_node_tries.specs.Tries.CallGoes.{Answered, Needs}
use Rattle.bx_node_tries.specs.Tries.MayWait.{Changes, Newer, Over, Wants}
use Rattle.bx_node_tries.specs.Tries.{IsChange, MayWait, Tried}
use Rattle.bx_node_tries.specs.declared.round.Said.{Said}
use Rattle.bx_node_tries.proofs.Led.{all_told, led_more, more_told, one_more}
use Rattle.bx_views.specs.Attempts.{Gives, IsFair}
use Rattle.bx_views.specs.declared.attempt.Attempt.{Attempt}
use Rattle.bx_node_tries.proofs.tries.try_one.Goals.{in-Change+else-may_begin, in-Inner+else-may_begin-2, then-not-is_attempted-via-then-not-is_attempted, then-not-is_attempted-via-else-not-is_attempted+then-is_newer}
use Rattle.bx_node_tries.proofs.tries.try_one.Goals as goal

pub returns-in_ok-push-in-Answer-clause-led : goal.returns-in_ok-push-in-Answer-clause-led
returns-in_ok-push-in-Answer-clause-led g c = λ truth first is_truth stood led.
    let e = g.E.Engine in
    let engine = c.args.engine.now in
    let gave = subst (λ (a : Attempt). Gives (e.stands engine) (e.step engine) (e.free engine truth) c.args.call.client c.args.call.message c.args.moment truth led.last a) c.in-Answer.is
    (subst (λ (found : Option Attempt). IfSome found (Gives (e.stands engine) (e.step engine) (e.free engine truth) c.args.call.client c.args.call.message c.args.moment truth led.last)) c.in-Some.is
    (subst (λ (b : List ℕ). IfSome c.in_ok-attempt.field-0 (Gives (e.stands engine) (e.step engine) (e.free engine truth) c.args.call.client b c.args.moment truth led.last)) c.bytes-bytes.ensures.bytes
    (c.in_ok-attempt.ensures.gives truth led.last is_truth (led.all (g.V.View.hints c.args.view.now) stood)))) in
    let done = c.in-Answer.done in
    let said : Said = record { point = record { call = c.args.call.number; moment = c.args.moment; spare = done.spare; made = done.made }; client = c.args.call.client; call = c.args.call.message; reply = done.reply } in
    led_more (e.stands engine) (e.step engine) (e.free engine truth) truth first c.args.round.now.said.items c.push-in-Answer.new.self.items said done led gave refl
    (c.in_ok-push-in-Answer.ensures.items ∙ ap (λ (s : Said). c.args.round.now.said.items ++ s ∷ []) c.said.ensures)

pub returns-in_ok-push-in-Answer-clause-goes : goal.returns-in_ok-push-in-Answer-clause-goes
returns-in_ok-push-in-Answer-clause-goes g c =
    let done = c.in-Answer.done in
    let said : Said = record { point = record { call = c.args.call.number; moment = c.args.moment; spare = done.spare; made = done.made }; client = c.args.call.client; call = c.args.call.message; reply = done.reply } in
    Answered said (record { number = refl; when = refl; client = refl; bytes = refl })
    (c.in_ok-push-in-Answer.ensures.items ∙ ap (λ (s : Said). c.args.round.now.said.items ++ s ∷ []) c.said.ensures) refl refl refl (sym c.is_newer.ensures ∙ c.if-is_newer.false) (sym c.is_attempted.ensures ∙ c.if-not-is_attempted.false)

pub returns-in_ok-push-in-Need-2-clause-goes : goal.returns-in_ok-push-in-Need-2-clause-goes
returns-in_ok-push-in-Need-2-clause-goes g c = Needs c.in-Need.wants c.in_ok-push-in-Need-2.ensures.items refl refl c.in_ok-push-in-Need.ensures.items (sym c.is_newer.ensures ∙ c.if-is_newer.false)

pub returns-in_ok-push-in-Need-2-clause-waits : goal.returns-in_ok-push-in-Need-2-clause-waits
returns-in_ok-push-in-Need-2-clause-waits g c = λ all.
    let e = g.E.Engine in
    let engine = c.args.engine.now in
    let held = g.V.View.held c.args.view.now in
    let hints = g.V.View.hints c.args.view.now in
    let call = c.args.call in
    let fair = subst (λ (a : Attempt). IsFair (e.areas engine) held (e.path engine call.client call.message held hints) a) c.in-Need.is
    (subst (λ (found : Option Attempt). IfSome found (IsFair (e.areas engine) held (e.path engine call.client call.message held hints))) c.in-Some.is
    (subst (λ (b : List ℕ). IfSome c.in_ok-attempt.field-0 (IsFair (e.areas engine) held (e.path engine call.client b held hints))) c.bytes-bytes.ensures.bytes c.in_ok-attempt.ensures.fair)) in
    all_told (MayWait e engine held hints c.args.moment c.args.newest c.args.may_begin)
    c.args.round.now.waiting.items c.push-in-Need-2.new.self.items call c.args.round.now.needs.items c.push-in-Need.new.self.items c.in-Need.wants
    c.in_ok-push-in-Need-2.ensures.items c.in_ok-push-in-Need.ensures.items
    (λ one more was. more_told e engine held hints c.args.moment c.args.newest c.args.may_begin _ _ one more was)
    (λ there. Wants c.in-Need.wants (record { gives = λ truth tree is stood. tt; fair = fair }) there) all

pub returns-then-not-is_attempted-clause-waits : goal.returns-then-not-is_attempted-clause-waits
returns-then-not-is_attempted-clause-waits g c = λ all.
    let e = g.E.Engine in
    let held = g.V.View.held c.args.view.now in
    let hints = g.V.View.hints c.args.view.now in
    let P = MayWait e c.args.engine.now held hints c.args.moment c.args.newest c.args.may_begin c.args.round.now.needs.items in
    let more = λ (may : P c.args.call). one_more P c.args.round.now.waiting.items c.push.new.self.items c.args.call c.in_ok-push.ensures.items may all in
    elim c.then-not-is_attempted.branch [
      | then-not-is_attempted-via-then-not-is_attempted w ↦ more (Over (sym c.is_attempted.ensures ∙ w.if-not-is_attempted.true))
      | then-not-is_attempted-via-else-not-is_attempted+then-is_newer w ↦ more (Newer (sym w.is_newer.ensures ∙ w.if-is_newer.true))
    ]

pub returns-in_ok-push-in-Change-2-clause-waits : goal.returns-in_ok-push-in-Change-2-clause-waits
returns-in_ok-push-in-Change-2-clause-waits g c = λ all.
    let e = g.E.Engine in
    let engine = c.args.engine.now in
    let held = g.V.View.held c.args.view.now in
    let hints = g.V.View.hints c.args.view.now in
    let call = c.args.call in
    let tried : Tried e engine held hints c.args.moment call c.in-Some.attempt = record {
      gives = λ truth tree is stood.
          subst (λ (found : Option Attempt). IfSome found (Gives (e.stands engine) (e.step engine) (e.free engine truth) call.client call.message c.args.moment truth tree)) c.in-Some.is
          (subst (λ (b : List ℕ). IfSome c.in_ok-attempt.field-0 (Gives (e.stands engine) (e.step engine) (e.free engine truth) call.client b c.args.moment truth tree)) c.bytes-bytes.ensures.bytes
          (c.in_ok-attempt.ensures.gives truth tree is stood));
      fair = subst (λ (found : Option Attempt). IfSome found (IsFair (e.areas engine) held (e.path engine call.client call.message held hints))) c.in-Some.is
          (subst (λ (b : List ℕ). IfSome c.in_ok-attempt.field-0 (IsFair (e.areas engine) held (e.path engine call.client b held hints))) c.bytes-bytes.ensures.bytes c.in_ok-attempt.ensures.fair);
    } in
    let P = MayWait e engine held hints c.args.moment c.args.newest c.args.may_begin c.args.round.now.needs.items in
    let more = λ (may : c.args.may_begin ≡ false) (changes : IsChange c.in-Some.attempt). one_more P
    c.args.round.now.waiting.items c.push-in-Change-2.new.self.items call c.in_ok-push-in-Change-2.ensures.items (Changes c.in-Some.attempt may changes tried) all in
    elim c.in-Change-2-1.branch [
      | in-Change+else-may_begin w ↦ more w.if-may_begin.false (subst IsChange (sym w.in-Change.is) tt)
      | in-Inner+else-may_begin-2 w ↦ more w.if-may_begin-2.false (subst IsChange (sym w.in-Inner.is) tt)
    ]
