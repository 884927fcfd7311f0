use Rattle.std.proofs.Common.{◌≡◌, true, false, refl, sym, ◌∙◌, eq-eqb, ne_eqb}
use Rattle.std.proofs.lemmas.Bool.{and_from, and_left, and_right}
use Rattle.bx_replies.specs.Answers.{is_to, reply_of}
use Rattle.bx_replies.specs.Calls.{answer_of, kept}
use Rattle.bx_replies.proofs.Keeping.{reply_of-oldest, reply_of-newer}
use Rattle.bx_replies.proofs.replies.Replies.find.Goals as goal
use Rattle.bx_replies.proofs.replies.Replies.find.Goals.{else-client-call-via-then-client-call+else-eq, else-client-call-via-else-client-call}

pub loop-call-init : goal.loop-call-init
loop-call-init c =
    let all : c.into_iter-call-iterator.result.iter ≡ c.self.inside.cache.entries = cc in
    rw (all, ← c.self.view_is) refl

pub returns-then-eq : goal.returns-then-eq
returns-then-eq c =
    let same = sym c.eq.ensures ∙ c.if-eq.true in
    let bytes = rw c.bytes.ensures at same in
    let hit : is_to c.args.client c.args.bytes.now (answer_of (c.in-Some.call.now, c.in-Some.reply.now)) ≡ true = and_from _ _ (eq-eqb _ _ c.if-client-call.true) bytes in
    sym (reply_of-oldest c.args.client c.args.bytes.now _ _ _ c.in-Some.ensures.steps hit) ∙ c.loop-call.invariant

pub loop-call-preserved : goal.loop-call-preserved
loop-call-preserved c =
    let on : is_to c.args.client c.args.bytes.now (answer_of (c.in-Some.call.now, c.in-Some.reply.now)) ≡ false → reply_of (kept c.next.new.self.iter) c.args.client c.args.bytes.now ≡ reply_of c.args.self.now c.args.client c.args.bytes.now =
    λ miss. sym (reply_of-newer c.args.client c.args.bytes.now _ _ _ c.in-Some.ensures.steps miss) ∙ c.loop-call.invariant in
    elim c.else-client-call.branch [
      | else-client-call-via-then-client-call+else-eq w ↦
          let other = sym w.eq.ensures ∙ w.if-eq.false in
          on (and_right _ _ (rw w.bytes.ensures at other))
      | else-client-call-via-else-client-call w ↦ on (and_left _ _ (ne_eqb _ _ w.if-client-call.false))
    ]

pub returns : goal.returns
returns c = let none = c.in-None.ensures.steps.0 in rw none at c.loop-call.invariant
