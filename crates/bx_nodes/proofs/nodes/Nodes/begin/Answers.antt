use Rattle.std.proofs.lemmas.Result.{on_ok_weaker}
use Rattle.std.specs.Prelude.{slice_get}
use Rattle.bx_node_cache.specs.Kept.{held_in, hint_in}
use Rattle.bx_node_tries.specs.Tries.{IsToBegin}
use Rattle.bx_node_steps.specs.declared.machine.Machine.{Machine}
use Rattle.bx_nodes.proofs.Beginning.{held_draft, numbered, works}
use Rattle.bx_nodes.proofs.Machines.{if_both, if_some}
use Rattle.bx_nodes.specs.Sending.{BeginsBy, SendsBody, WorksOver}
use Rattle.bx_views.specs.Attempts.{IsHeldDraft}
use Rattle.bx_nodes.proofs.nodes.Nodes.begin.Goals as goal

pub send-requires-clause-held : goal.send-requires-clause-held
send-requires-clause-held g c =
    let self = c.args.self.now in
    let e = g.E.Engine in
    let begun = c.args.begun in
    if_some (slice_get self.machines.items c.args.node) (λ (machine : Machine). IsToBegin e self.engine (held_in machine.cache.kept) (hint_in machine.cache.hinted) c.args.moment begun)
    (λ (machine : Machine). IsHeldDraft (held_in machine.cache.kept) c.asked_by.result.pending.draft)
    (λ machine is. held_draft c.args.moment (e.areas self.engine) (held_in machine.cache.kept) (e.path self.engine begun.call.client begun.call.message (held_in machine.cache.kept) (hint_in machine.cache.hinted)) begun.call begun.attempt c.asked_by.result c.asked_by.ensures is.tried.fair)
    c.requires.begun

pub send-requires-clause-numbered : goal.send-requires-clause-numbered
send-requires-clause-numbered g c = numbered c.args.moment c.args.begun.call c.args.begun.attempt c.asked_by.result c.asked_by.ensures

pub returns-clause-stands : goal.returns-clause-stands
returns-clause-stands g c = λ x letters clocks course tree session up stands own ends lives mine.
    let self = c.args.self.now in
    let e = g.E.Engine in
    let begun = c.args.begun in
    c.send.ensures.stands x letters clocks course tree session up stands own ends lives mine
    (if_some (slice_get self.machines.items c.args.node) (λ (machine : Machine). IsToBegin e self.engine (held_in machine.cache.kept) (hint_in machine.cache.hinted) c.args.moment begun)
    (WorksOver e self.engine c.asked_by.result)
    (λ machine is truth t holds agrees. works (e.stands self.engine) (e.step self.engine) (e.free self.engine truth) c.args.moment begun.call truth t begun.attempt c.asked_by.result c.asked_by.ensures (is.tried.gives truth t holds agrees))
    c.requires.begun)

pub returns-clause-begins : goal.returns-clause-begins
returns-clause-begins g c =
    let items = c.args.self.now.machines.items in
    let node = c.args.node in
    let own = g.S.Store.own c.args.self.now.store node in
    let out = g.S.Store.out_of c.send.new.self.store node in
    on_ok_weaker c.send.result
    (λ sends. if_both (slice_get items node) (slice_get c.send.new.self.machines.items node) (SendsBody c.asked_by.result own c.args.until out) (BeginsBy c.args.moment c.args.begun own c.args.until out)
    (λ a b sent. record { recording = c.asked_by.result; asks = c.asked_by.ensures; sends = sent }) sends)
    c.send.ensures.sends
