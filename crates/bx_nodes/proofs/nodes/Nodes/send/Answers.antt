use Rattle.std.proofs.Common.{◌≡◌, ◌∙◌, Some, sym, ap}
use Rattle.std.specs.Prelude.{slice_get}
use Rattle.std.proofs.lemmas.Option.{slice_get-get_or}
use Rattle.bx_node_cache.specs.Kept.{held_in}
use Rattle.bx_node_steps.specs.Ready.{IsReady}
use Rattle.bx_node_steps.specs.declared.machine.Machine.{Machine}
use Rattle.bx_node_steps.specs.declared.machine.Stage.TheVariants.{Idle}
use Rattle.bx_nodes.proofs.Beginning.{sent_there}
use Rattle.bx_node_steps.proofs.Fitting.{begin_fits, begun_ready, ready_at}
use Rattle.bx_nodes.proofs.Machines.{of_there, put_there, set_there, was_there}
use Rattle.bx_nodes.specs.Sending.{WorksOver}
use Rattle.bx_views.specs.Attempts.{IsHeldDraft}
use Rattle.bx_nodes.proofs.nodes.Nodes.send.Goals as goal

pub begin-requires-clause-held : goal.begin-requires-clause-held
begin-requires-clause-held g c =
    let items = c.args.self.now.machines.items in
    let before = c.index_mut.result.now in
    let was : slice_get items c.args.node ≡ Some before = slice_get-get_or items c.args.node before c.requires.there ∙ ap (λ (m : Machine). Some m) (sym c.index_mut.ensures.value) in
    of_there (λ (machine : Machine). IsHeldDraft (held_in machine.cache.kept) c.args.recording.pending.draft) (slice_get items c.args.node) before was c.requires.held

pub returns-in_err-runs-clause-others : goal.returns-in_err-runs-clause-others
returns-in_err-runs-clause-others g c = record { others = λ other ne. set_there c.args.self.now.machines.items c.args.node other c.begin.new.self ne }

pub write-requires-clause-runs : goal.write-requires-clause-runs
write-requires-clause-runs g c =
    let items = c.args.self.now.machines.items in
    let before = c.index_mut.result.now in
    let was : slice_get items c.args.node ≡ Some before = slice_get-get_or items c.args.node before c.requires.there ∙ ap (λ (m : Machine). Some m) (sym c.index_mut.ensures.value) in
    let made = g.S.Store.made c.args.self.now.store in
    let areas = g.E.Engine.areas c.args.self.now.engine in
    let asked = g.S.Store.asked c.args.self.now.store c.args.node in
    begin_fits made areas asked before c.begin.new.self (of_there (IsReady made areas asked) (slice_get items c.args.node) before was c.requires.ready) c.args.recording c.in_ok-runs.runs c.in_ok-runs.ensures
    (of_there (λ (m : Machine). m.stage ≡ Idle) (slice_get items c.args.node) before was c.requires.idle)

pub returns-in_err-write-clause-others : goal.returns-in_err-write-clause-others
returns-in_err-write-clause-others g c = record { others = λ other ne. set_there c.args.self.now.machines.items c.args.node other c.begin.new.self ne }

pub returns-clause-stands : goal.returns-clause-stands
returns-clause-stands g c = λ x letters clocks course tree session up stands own ends lives mine works.
    let self = c.args.self.now in
    let items = self.machines.items in
    let before = c.index_mut.result.now in
    let engine = self.engine in
    let e = g.E.Engine in
    let was : slice_get items c.args.node ≡ Some before = slice_get-get_or items c.args.node before c.requires.there ∙ ap (λ (m : Machine). Some m) (sym c.index_mut.ensures.value) in
    let made = g.S.Store.made self.store in
    let own_is : g.S.Store.own self.store c.args.node ≡ Some session = sym (stands.at.parts.own c.args.node up) ∙ own in
    let areas = e.areas engine in
    let asked = g.S.Store.asked self.store c.args.node in
    let ready = of_there (IsReady made areas asked) (slice_get items c.args.node) before was c.requires.ready in
    let idle = of_there (λ (m : Machine). m.stage ≡ Idle) (slice_get items c.args.node) before was c.requires.idle in
    let wrote = c.in_ok-write.ensures in
    sent_there g.G.Register g.O.Owners g.S.Store (e.stands engine) (e.step engine) self.register self.owners self.store c.write.new.self x letters c.args.out.now c.write.new.out clocks items course tree
    c.args.node session c.args.until before c.begin.new.self stands up own ends lives was (of_there (λ (m : Machine). m.session ≡ Some session) (slice_get items c.args.node) before was mine) c.requires.none_out
    (record { legal = λ y past. g.met.G.Register.legal self.register y past; allowed = λ y past s. g.met.G.Register.allowed self.register y past s; loses = λ y past all. g.met.G.Register.loses self.register y past all })
    (record {
      leases = λ past n s end. g.met.O.Owners.leases self.owners past n s end;
      lives = λ past s end. g.met.O.Owners.lives self.owners past s end;
      alone = λ past s other block hold. g.met.O.Owners.alone self.owners past s other block hold;
      opened = λ past n s. g.met.O.Owners.was_opened self.owners past n s;
      loses = λ past all. g.met.O.Owners.loses self.owners past all;
    })
    (record { nothing_out = λ y past n s. g.met.S.Store.nothing_out self.store y past n s })
    c.args.recording c.in_ok-runs.runs idle (of_there (λ (machine : Machine). IsHeldDraft (held_in machine.cache.kept) c.args.recording.pending.draft) (slice_get items c.args.node) before was c.requires.held) c.requires.numbered
    (of_there (WorksOver e engine c.args.recording) (slice_get items c.args.node) before was works) c.in_ok-runs.ensures
    (record {
      fits = begin_fits made areas asked before c.begin.new.self ready c.args.recording c.in_ok-runs.runs c.in_ok-runs.ensures idle;
      keeps = λ y past kept is_up may. wrote.keeps y past session kept is_up own_is may;
      goes_on = λ y past kept is_up may. wrote.goes_on y past session kept is_up own_is may;
      is_out = wrote.is_out session own_is;
      others = wrote.others;
      own = λ other. (wrote.stays other).0;
      asked = λ other. (wrote.stays other).1;
      sent = wrote.sent;
      made = wrote.made;
    })
    ready.devices ready.areas

pub returns-clause-sends : goal.returns-clause-sends
returns-clause-sends g c =
    let items = c.args.self.now.machines.items in
    let before = c.index_mut.result.now in
    let was : slice_get items c.args.node ≡ Some before = slice_get-get_or items c.args.node before c.requires.there ∙ ap (λ (m : Machine). Some m) (sym c.index_mut.ensures.value) in
    was_there _ (slice_get items c.args.node) before was (put_there _ items c.args.node c.begin.new.self before was (record {
      runs = c.in_ok-runs.runs;
      begins = c.in_ok-runs.ensures;
      sent = λ session own_is. c.in_ok-write.ensures.is_out session own_is;
    }))

pub returns-clause-ready : goal.returns-clause-ready
returns-clause-ready g c =
    let self = c.args.self.now in
    let items = self.machines.items in
    let before = c.index_mut.result.now in
    let was : slice_get items c.args.node ≡ Some before = slice_get-get_or items c.args.node before c.requires.there ∙ ap (λ (m : Machine). Some m) (sym c.index_mut.ensures.value) in
    let made = g.S.Store.made self.store in
    let areas = g.E.Engine.areas c.args.self.now.engine in
    let asked = g.S.Store.asked c.args.self.now.store c.args.node in
    let wrote = c.in_ok-write.ensures in
    put_there (IsReady (g.S.Store.made c.write.new.self) areas (g.S.Store.asked c.write.new.self c.args.node)) items c.args.node c.begin.new.self before was
    (ready_at made (g.S.Store.made c.write.new.self) areas asked (g.S.Store.asked c.write.new.self c.args.node) c.begin.new.self wrote.made (wrote.stays c.args.node).1
    (begun_ready made areas asked before c.begin.new.self (of_there (IsReady made areas asked) (slice_get items c.args.node) before was c.requires.ready) c.args.recording c.in_ok-runs.runs c.in_ok-runs.ensures
    (of_there (λ (m : Machine). m.stage ≡ Idle) (slice_get items c.args.node) before was c.requires.idle)
    c.requires.numbered))

pub returns-clause-others : goal.returns-clause-others
returns-clause-others g c = record { others = λ other ne. set_there c.args.self.now.machines.items c.args.node other c.begin.new.self ne }
