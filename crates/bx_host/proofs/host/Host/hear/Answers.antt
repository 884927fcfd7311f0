use Rattle.std.proofs.Common.{[], ◌∷◌, ◌++◌, Some, None, refl, ap, sym, ◌∙◌}
use Rattle.std.proofs.lemmas.List.{append-nil}
use Rattle.std.proofs.lemmas.Result.{err_from_is_err_and}
use Rattle.bx_outside.specs.Datagrams.{answer_of}
use Rattle.bx_outside.specs.declared.datagram.Datagram.{Datagram}
use Rattle.bx_host.specs.Standing.{standing}
use Rattle.bx_host.specs.Turns.{IsServed}
use Rattle.bx_host.specs.Turns.IsServed.{Closed, Silent}
use Rattle.bx_host.proofs.Ending.{keeps_none}
use Rattle.bx_host.proofs.Hearings.{ends_heard, ends_link, link_not_write, two_not_write}
use Rattle.bx_host.proofs.Moving.{does_none}
use Rattle.bx_host.proofs.Sendings.{keeps_same}
use Rattle.bx_host.proofs.host.Host.hear.Goals as goal

pub returns-then-not-is_open-clause-hears : goal.returns-then-not-is_open-clause-hears
returns-then-not-is_open-clause-hears g c =
    let a = standing g.C.Shows.seen g.C.Cluster.room g.C.Cluster.led g.R.Rack c.args.self.now c.args.rack.now in
    record {
      asked = [];
      given = λ tells. sym (append-nil (g.L.Link.given c.args.link.now));
      quiet = λ tells. refl;
      ends = does_none (λ from steps to. IsServed c.args.self.now.first c.args.self.now.reading from [] steps to) c.args.self.now.reading a (Closed (sym c.is_open.ensures ∙ c.if-not-is_open.true) refl (record { none = refl; same = refl }));
      keeps = keeps_none g.R.Rack c.args.rack.now;
      keeps_link = keeps_same g.L.Link c.args.link.now;
      reading = refl;
      first = refl;
      ready = refl;
      sent = refl;
      others = tt;
    }

pub returns-in_err-client-clause-hears : goal.returns-in_err-client-clause-hears
returns-in_err-client-clause-hears g c =
    let p = err_from_is_err_and c.from_residual.result c.from_residual.ensures.1 in
    let a = standing g.C.Shows.seen g.C.Cluster.room g.C.Cluster.led g.R.Rack c.args.self.now c.args.rack.now in
    rw (p.1, p.2) (record {
      asked = [];
      given = λ tells. c.in_err-client.ensures.given_keeps tells ∙ sym (append-nil (g.L.Link.given c.args.link.now));
      quiet = λ tells. c.receive.ensures.sent tells;
      ends = ends_link _ _ c.args.self.now.reading a;
      keeps = keeps_none g.R.Rack c.args.rack.now;
      keeps_link = record { later = c.receive.ensures.later; tells = c.receive.ensures.keeps_telling };
      reading = refl;
      first = refl;
      ready = refl;
      sent = refl;
      others = link_not_write _;
    })

pub returns-in_default-clause-hears : goal.returns-in_default-clause-hears
returns-in_default-clause-hears g c =
    let a = standing g.C.Shows.seen g.C.Cluster.room g.C.Cluster.led g.R.Rack c.args.self.now c.args.rack.now in
    record {
      asked = None ∷ [];
      given = λ tells. c.in_ok-client.ensures.given tells ∙ ap (λ o. g.L.Link.given c.args.link.now ++ answer_of o c.receive.new.into.items ∷ []) c.in_default.is;
      quiet = λ tells. c.receive.ensures.sent tells;
      ends = does_none (λ from steps to. IsServed c.args.self.now.first c.args.self.now.reading from (None ∷ []) steps to) c.args.self.now.reading a (Silent (sym c.is_open.ensures ∙ c.if-not-is_open.false) refl (record { none = refl; same = refl }));
      keeps = keeps_none g.R.Rack c.args.rack.now;
      keeps_link = record { later = c.receive.ensures.later; tells = c.receive.ensures.keeps_telling };
      reading = refl;
      first = refl;
      ready = refl;
      sent = refl;
      others = tt;
    }

pub returns-clause-hears : goal.returns-clause-hears
returns-clause-hears g c =
    let a = standing g.C.Shows.seen g.C.Cluster.room g.C.Cluster.led g.R.Rack c.args.self.now c.args.rack.now in
    let b = standing g.C.Shows.seen g.C.Cluster.room g.C.Cluster.led g.R.Rack c.settle.new.self c.settle.new.rack in
    let bytes = c.receive.new.into.items in
    let datagram : Datagram = record { client = c.in-Some.client; bytes = bytes } in
    let settle = c.settle.ensures.ends in
    record {
      asked = Some datagram ∷ [];
      given = λ tells. c.in_ok-client.ensures.given tells ∙ ap (λ o. g.L.Link.given c.args.link.now ++ answer_of o bytes ∷ []) c.in-Some.is;
      quiet = λ tells. c.receive.ensures.sent tells;
      ends = ends_heard c.args.self.now.first c.args.self.now.reading datagram _ a b c.settle.result (sym c.is_open.ensures ∙ c.if-not-is_open.false) refl
          (ap (λ l. Some (record { node = 0; client = c.in-Some.client; bytes = l })) c.as_slice.ensures.value) settle.ends;
      keeps = settle.keeps;
      keeps_link = record { later = c.receive.ensures.later; tells = c.receive.ensures.keeps_telling };
      reading = settle.reading;
      first = settle.first;
      ready = settle.ready;
      sent = settle.sent;
      others = two_not_write c.settle.result settle.only;
    }
