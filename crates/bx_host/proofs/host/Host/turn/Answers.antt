use Rattle.std.proofs.Common.{[], ◌++◌, Ok, Err, ap, refl, sym, subst, ◌∙◌}
use Rattle.std.proofs.lemmas.Result.{err_from_is_err_and}
use Rattle.bx_host.specs.Hearing.{Hears}
use Rattle.bx_host.specs.Serves.{BreaksTurn, ready_text}
use Rattle.bx_host.specs.Standing.{Goes}
use Rattle.bx_host.specs.Turns.{AllTicked}
use Rattle.bx_host.proofs.Turning.{breaks_heard, breaks_ready, breaks_sending, breaks_ticks, turn_done}
use Rattle.bx_host.proofs.host.Host.turn.Goals as goal

pub returns-in_err-tick_all-clause-breaks : goal.returns-in_err-tick_all-clause-breaks
returns-in_err-tick_all-clause-breaks g c =
    let p = err_from_is_err_and c.from_residual.result c.from_residual.ensures.1 in
    let goes = subst (λ h. Goes g.C.Shows.seen g.C.Cluster.room g.C.Cluster.led g.R.Rack {A = Unit {0}} (Err c.in_err-tick_all.field-0.0) (AllTicked h.first h.reading) [] h c.args.rack.now c.tick_all.new.self c.tick_all.new.rack) c.begin.ensures c.in_err-tick_all.ensures.ends in
    rw (p.1, p.2) (breaks_ticks g.C.Shows.seen g.C.Cluster.room g.C.Cluster.led g.R.Rack g.L.Link g.S.Sink c.args.self.now c.tick_all.new.self c.args.rack.now c.tick_all.new.rack c.args.link.now c.args.now _ goes)

pub returns-in_err-tell_ready-clause-breaks : goal.returns-in_err-tell_ready-clause-breaks
returns-in_err-tell_ready-clause-breaks g c =
    let p = err_from_is_err_and c.from_residual-in_err-tell_ready.result c.from_residual-in_err-tell_ready.ensures.1 in
    let goes = subst (λ h. Goes g.C.Shows.seen g.C.Cluster.room g.C.Cluster.led g.R.Rack {A = Unit {0}} (Ok tt) (AllTicked h.first h.reading) [] h c.args.rack.now c.tick_all.new.self c.tick_all.new.rack) c.begin.ensures c.in_ok-tick_all.ensures.ends in
    rw (p.1, p.2) (subst (λ h. BreaksTurn g.C.Shows.seen g.C.Cluster.room g.C.Cluster.led g.R.Rack g.L.Link g.S.Sink c.in_err-tell_ready.field-0.0 c.args.self.now c.args.rack.now h c.tick_all.new.rack c.args.link.now c.args.link.now) (sym c.in_err-tell_ready.ensures.same)
    (breaks_ready g.C.Shows.seen g.C.Cluster.room g.C.Cluster.led g.R.Rack g.L.Link g.S.Sink c.args.self.now c.tick_all.new.self c.args.rack.now c.tick_all.new.rack c.args.link.now c.args.now _ c.in_err-tell_ready.ensures.why goes))

pub returns-in_err-hear-clause-breaks : goal.returns-in_err-hear-clause-breaks
returns-in_err-hear-clause-breaks g c =
    let p = err_from_is_err_and c.from_residual-in_err-hear.result c.from_residual-in_err-hear.ensures.1 in
    let goes = subst (λ h. Goes g.C.Shows.seen g.C.Cluster.room g.C.Cluster.led g.R.Rack {A = Unit {0}} (Ok tt) (AllTicked h.first h.reading) [] h c.args.rack.now c.tick_all.new.self c.tick_all.new.rack) c.begin.ensures c.in_ok-tick_all.ensures.ends in
    let hears = subst (λ h. Hears g.C.Shows.seen g.C.Cluster.room g.C.Cluster.led g.R.Rack g.L.Link {A = Unit {0}} (Err c.in_err-hear.field-0.0) h c.tick_all.new.rack c.hear.new.self c.hear.new.rack c.args.link.now c.hear.new.link) c.in_ok-tell_ready.ensures.ready c.in_err-hear.ensures.hears in
    rw (p.1, p.2) (breaks_heard g.C.Shows.seen g.C.Cluster.room g.C.Cluster.led g.R.Rack g.L.Link g.S.Sink c.args.self.now c.tick_all.new.self c.hear.new.self c.args.rack.now c.tick_all.new.rack c.hear.new.rack c.args.link.now c.hear.new.link c.args.now _ _ goes hears)

pub returns-in_err-answer-clause-breaks : goal.returns-in_err-answer-clause-breaks
returns-in_err-answer-clause-breaks g c =
    let p = err_from_is_err_and c.from_residual-in_err-answer.result c.from_residual-in_err-answer.ensures.1 in
    let goes = subst (λ h. Goes g.C.Shows.seen g.C.Cluster.room g.C.Cluster.led g.R.Rack {A = Unit {0}} (Ok tt) (AllTicked h.first h.reading) [] h c.args.rack.now c.tick_all.new.self c.tick_all.new.rack) c.begin.ensures c.in_ok-tick_all.ensures.ends in
    let hears = subst (λ h. Hears g.C.Shows.seen g.C.Cluster.room g.C.Cluster.led g.R.Rack g.L.Link {A = Unit {0}} (Ok tt) h c.tick_all.new.rack c.hear.new.self c.hear.new.rack c.args.link.now c.hear.new.link) c.in_ok-tell_ready.ensures.ready c.in_ok-hear.ensures.hears in
    rw (p.1, p.2) (breaks_sending g.C.Shows.seen g.C.Cluster.room g.C.Cluster.led g.R.Rack g.L.Link g.S.Sink c.args.self.now c.tick_all.new.self c.hear.new.self c.answer.new.self c.args.rack.now c.tick_all.new.rack c.hear.new.rack c.args.link.now c.hear.new.link c.answer.new.link c.args.now _ _ c.in_err-answer.ensures.link.why goes hears c.answer.ensures.same c.in_err-answer.ensures.sends.sends c.answer.ensures.sends.given)

pub returns-clause-does : goal.returns-clause-does
returns-clause-does g c =
    let goes = subst (λ h. Goes g.C.Shows.seen g.C.Cluster.room g.C.Cluster.led g.R.Rack {A = Unit {0}} (Ok tt) (AllTicked h.first h.reading) [] h c.args.rack.now c.tick_all.new.self c.tick_all.new.rack) c.begin.ensures c.in_ok-tick_all.ensures.ends in
    let told = c.in_ok-tell_ready.ensures.ready in
    let hears = subst (λ h. Hears g.C.Shows.seen g.C.Cluster.room g.C.Cluster.led g.R.Rack g.L.Link {A = Unit {0}} (Ok tt) h c.tick_all.new.rack c.hear.new.self c.hear.new.rack c.args.link.now c.hear.new.link) told c.in_ok-hear.ensures.hears in
    let answered = c.answer.ensures.same ∙ ap (λ n. record c.hear.new.self { sent = n }) c.in_ok-answer.ensures.count in
    turn_done g.C.Shows.seen g.C.Cluster.room g.C.Cluster.led g.R.Rack g.L.Link g.S.Sink c.args.self.now c.tick_all.new.self c.hear.new.self c.answer.new.self c.end.new.self c.args.rack.now c.tick_all.new.rack c.hear.new.rack c.args.link.now c.hear.new.link c.answer.new.link c.args.out.now c.tell_ready.new.out c.args.now _
    goes refl (λ tells. c.in_ok-tell_ready.ensures.written tells ∙ ap (λ h. g.S.Sink.written c.args.out.now ++ ready_text c.tick_all.new.self.ready h.ready) told) hears c.in_ok-answer.ensures.sends.sends c.answer.ensures.sends.given answered c.end.ensures.same c.end.ensures.shows c.end.ensures.at
