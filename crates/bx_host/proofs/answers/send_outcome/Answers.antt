use Rattle.std.proofs.Common.{List, [], ◌∷◌, ◌+◌, ap, arith, drop, subst, sym, ◌∙◌, ◌++◌}
use Rattle.std.proofs.lemmas.List.{drop_more}
use Rattle.std.proofs.lemmas.Result.{err_from_is_err_and}
use Rattle.bx_outside.specs.declared.datagram.Datagram.{Datagram}
use Rattle.bx_host.specs.Sending.{SendsAll}
use Rattle.bx_host.specs.Steps.{again_of, datagram_of, replies_of}
use Rattle.bx_host.proofs.Sendings.{again_sent, all_sent, none_sent, replies_broken, reply_broken, reply_more, sent_whole}
use Rattle.bx_host.proofs.answers.send_outcome.Goals as goal

pub loop-reply-init : goal.loop-reply-init
loop-reply-init g c = none_sent g.L.Link (replies_of c.items-reply-items.result.now) c.args.link.now c.args.sent (omega arith)

pub loop-reply-preserved : goal.loop-reply-preserved
loop-reply-preserved g c =
    let send = c.in_ok-count.ensures in
    reply_more g.L.Link _ _ _ _ _ _ _ _ _ _ (drop_more c.items-reply-items.result.now c.loop-reply.reply-index c.reply-item.result c.loop-reply-test.true ∙ ap (λ one. one ∷ drop (c.loop-reply.reply-index + 1) c.items-reply-items.result.now) (sym c.reply-item.is)) c.loop-reply.invariant send.sends.sends send.sends.given send.count send.link.keeps

pub returns-in_err-count-clause-sends : goal.returns-in_err-count-clause-sends
returns-in_err-count-clause-sends g c =
    let p = err_from_is_err_and c.from_residual.result c.from_residual.ensures.1 in
    let was = c.loop-reply.invariant in
    let send = c.in_err-count.ensures.sends in
    rw p.1 (record {
      sends = λ tells.
          let it = replies_broken _ (again_of c.args.outcome.now.again) _ _
          (reply_broken g.L.Link _ _ _ _ _ _ _ _ _ (drop_more c.items-reply-items.result.now c.loop-reply.reply-index c.reply-item.result c.loop-reply-test.true ∙ ap (λ one. one ∷ drop (c.loop-reply.reply-index + 1) c.items-reply-items.result.now) (sym c.reply-item.is)) was send.sends tells) in
          (it.0, it.1, sym (ap (λ l. replies_of l ++ again_of c.args.outcome.now.again) c.items-reply-items.ensures) ∙ it.2, it.3);
      given = λ tells. send.given (was.keeps.tells tells) ∙ was.given tells;
    })

pub returns-in-Some-clause-sends : goal.returns-in-Some-clause-sends
returns-in-Some-clause-sends g c =
    let items = c.items-reply-items.result.now in
    let past = c.loop-reply-test.false in
    let so = all_sent g.L.Link items c.loop-reply.reply-index _ _ _ _ (omega (arith, past)) c.loop-reply.invariant in
    let again = c.send-in-Some.ensures.sends in
    let whole = ap (λ l. replies_of l ++ datagram_of c.in-Some.reply ∷ []) c.items-reply-items.ensures ∙ sym (ap (λ a. replies_of c.args.outcome.now.replies ++ again_of a) c.in-Some.is) in
    record {
      sends = λ tells. subst (λ (l : List Datagram). SendsAll c.send-in-Some.result l (g.L.Link.sent c.args.link.now) (g.L.Link.sent c.send-in-Some.new.link)) whole
          (again_sent c.send-in-Some.result (replies_of items) (datagram_of c.in-Some.reply) _ _ _ (sent_whole g.L.Link _ _ _ _ _ so tells) (again.sends (so.keeps.tells tells)));
      given = λ tells. again.given (so.keeps.tells tells) ∙ so.given tells;
    }
