use Rattle.std.proofs.Common.{◌≡◌, ◌∙◌, Option, Some, None, refl, rules, sym, ap, subst}
use Rattle.std.specs.Prelude.{slice_get}
use Rattle.std.proofs.lemmas.Option.{slice_get-get_or}
use Rattle.bx_facts.specs.Writes.{Sent}
use Rattle.bx_node_steps.specs.Logging.{LogGoes}
use Rattle.bx_node_steps.specs.Ready.{IsReady}
use Rattle.bx_nodes.specs.Sending.{StepsLog}
use Rattle.bx_node_steps.specs.declared.machine.Machine.{Machine}
use Rattle.bx_node_steps.proofs.Fitting.{ready_at, step_fits, still_ready}
use Rattle.bx_nodes.proofs.Machines.{of_there, put_there, set_there, was_there}
use Rattle.bx_nodes.proofs.Stepping.{rested, went}
use Rattle.bx_nodes.proofs.nodes.Nodes.step_log.Goals as goal

pub returns-in_default-clause-stands : goal.returns-in_default-clause-stands
returns-in_default-clause-stands g c = λ x letters clocks course tree session up stands own ends lives mine.
    let self = c.args.self.now in
    let items = self.machines.items in
    let before = c.index_mut.result.now in
    let was : slice_get items c.args.node ≡ Some before = slice_get-get_or items c.args.node before c.requires.there ∙ ap (λ (m : Machine). Some m) (sym c.index_mut.ensures.value) in
    rested g.G.Register g.O.Owners g.S.Store (g.E.Engine.stands self.engine) (g.E.Engine.step self.engine) self.register self.owners self.store self.store x letters c.args.out.now c.args.out.now clocks items course tree
    c.args.node session c.args.until before c.log_on.new.self stands up own ends lives was (of_there (λ (m : Machine). m.session ≡ Some session) (slice_get items c.args.node) before was mine) (c.done.ensures.no_write (search rules))
    (record { legal = λ y past. g.met.G.Register.legal self.register y past; allowed = λ y past s. g.met.G.Register.allowed self.register y past s; loses = λ y past all. g.met.G.Register.loses self.register y past all })
    (record {
      leases = λ past n s e. g.met.O.Owners.leases self.owners past n s e;
      lives = λ past s e. g.met.O.Owners.lives self.owners past s e;
      alone = λ past s other block hold. g.met.O.Owners.alone self.owners past s other block hold;
      opened = λ past n s. g.met.O.Owners.was_opened self.owners past n s;
      loses = λ past all. g.met.O.Owners.loses self.owners past all;
    })
    (record { nothing_out = λ y past n s. g.met.S.Store.nothing_out self.store y past n s })
    c.in_ok-runs.field-0.runs c.in_ok-runs.field-0.said c.in_default.is c.in_ok-runs.ensures

pub returns-in_default-clause-steps : goal.returns-in_default-clause-steps
returns-in_default-clause-steps g c =
    let self = c.args.self.now in
    let items = self.machines.items in
    let before = c.index_mut.result.now in
    let own = g.S.Store.own self.store c.args.node in
    let none_out = c.done.ensures.no_write (search rules) in
    let was : slice_get items c.args.node ≡ Some before = slice_get-get_or items c.args.node before c.requires.there ∙ ap (λ (m : Machine). Some m) (sym c.index_mut.ensures.value) in
    was_there _ (slice_get items c.args.node) before was (put_there _ items c.args.node c.log_on.new.self before was
    (subst (λ (out : Option Sent). StepsLog own c.args.until out (g.S.Store.out_of self.store c.args.node) before c.log_on.new.self c.in_ok-runs.field-0.said) (sym none_out)
    (None, subst (λ r. LogGoes before c.log_on.new.self r c.in_ok-runs.field-0.said) c.in_default.is c.in_ok-runs.ensures, none_out)))

pub returns-in_default-clause-ready : goal.returns-in_default-clause-ready
returns-in_default-clause-ready g c =
    let self = c.args.self.now in
    let items = self.machines.items in
    let before = c.index_mut.result.now in
    let was : slice_get items c.args.node ≡ Some before = slice_get-get_or items c.args.node before c.requires.there ∙ ap (λ (m : Machine). Some m) (sym c.index_mut.ensures.value) in
    let made = g.S.Store.made self.store in
    let areas = g.E.Engine.areas c.args.self.now.engine in
    let asked = g.S.Store.asked c.args.self.now.store c.args.node in
    put_there (IsReady made areas asked) items c.args.node c.log_on.new.self before was
    (still_ready made areas asked before c.log_on.new.self (of_there (IsReady made areas asked) (slice_get items c.args.node) before was c.requires.ready) c.in_ok-runs.field-0.runs c.in_ok-runs.field-0.said c.in_ok-runs.ensures)

pub returns-in_default-clause-others : goal.returns-in_default-clause-others
returns-in_default-clause-others g c = record { others = λ other ne. set_there c.args.self.now.machines.items c.args.node other c.log_on.new.self ne }

pub write-requires-clause-runs : goal.write-requires-clause-runs
write-requires-clause-runs g c =
    let items = c.args.self.now.machines.items in
    let before = c.index_mut.result.now in
    let was : slice_get items c.args.node ≡ Some before = slice_get-get_or items c.args.node before c.requires.there ∙ ap (λ (m : Machine). Some m) (sym c.index_mut.ensures.value) in
    let made = g.S.Store.made c.args.self.now.store in
    let areas = g.E.Engine.areas c.args.self.now.engine in
    let asked = g.S.Store.asked c.args.self.now.store c.args.node in
    step_fits made areas asked before c.log_on.new.self (of_there (IsReady made areas asked) (slice_get items c.args.node) before was c.requires.ready) c.in-Some.runs c.in_ok-runs.field-0.said
    (subst (λ r. LogGoes before c.log_on.new.self r c.in_ok-runs.field-0.said) c.in-Some.is c.in_ok-runs.ensures)

pub returns-in_err-write-clause-others : goal.returns-in_err-write-clause-others
returns-in_err-write-clause-others g c = record { others = λ other ne. set_there c.args.self.now.machines.items c.args.node other c.log_on.new.self ne }

pub returns-clause-stands : goal.returns-clause-stands
returns-clause-stands g c = λ x letters clocks course tree session up stands own ends lives mine.
    let self = c.args.self.now in
    let items = self.machines.items in
    let before = c.index_mut.result.now in
    let was : slice_get items c.args.node ≡ Some before = slice_get-get_or items c.args.node before c.requires.there ∙ ap (λ (m : Machine). Some m) (sym c.index_mut.ensures.value) in
    let made = g.S.Store.made self.store in
    let own_is : g.S.Store.own self.store c.args.node ≡ Some session = sym (stands.at.parts.own c.args.node up) ∙ own in
    let areas = g.E.Engine.areas c.args.self.now.engine in
    let asked = g.S.Store.asked c.args.self.now.store c.args.node in
    let ready = of_there (IsReady made areas asked) (slice_get items c.args.node) before was c.requires.ready in
    let goes = subst (λ r. LogGoes before c.log_on.new.self r c.in_ok-runs.field-0.said) c.in-Some.is c.in_ok-runs.ensures in
    let wrote = c.in_ok-write.ensures in
    went g.G.Register g.O.Owners g.S.Store (g.E.Engine.stands self.engine) (g.E.Engine.step self.engine) self.register self.owners self.store c.write.new.self x letters c.args.out.now c.write.new.out clocks items course tree
    c.args.node session c.args.until before c.log_on.new.self stands up own ends lives was (of_there (λ (m : Machine). m.session ≡ Some session) (slice_get items c.args.node) before was mine) (c.done.ensures.no_write (search rules))
    (record { legal = λ y past. g.met.G.Register.legal self.register y past; allowed = λ y past s. g.met.G.Register.allowed self.register y past s; loses = λ y past all. g.met.G.Register.loses self.register y past all })
    (record {
      leases = λ past n s e. g.met.O.Owners.leases self.owners past n s e;
      lives = λ past s e. g.met.O.Owners.lives self.owners past s e;
      alone = λ past s other block hold. g.met.O.Owners.alone self.owners past s other block hold;
      opened = λ past n s. g.met.O.Owners.was_opened self.owners past n s;
      loses = λ past all. g.met.O.Owners.loses self.owners past all;
    })
    (record { nothing_out = λ y past n s. g.met.S.Store.nothing_out self.store y past n s })
    c.in-Some.runs
    (record {
      fits = step_fits made areas asked before c.log_on.new.self ready c.in-Some.runs c.in_ok-runs.field-0.said goes;
      keeps = λ y past kept is_up may. wrote.keeps y past session kept is_up own_is may;
      goes_on = λ y past kept is_up may. wrote.goes_on y past session kept is_up own_is may;
      is_out = wrote.is_out session own_is;
      others = wrote.others;
      own = λ other. (wrote.stays other).0;
      asked = λ other. (wrote.stays other).1;
      sent = wrote.sent;
      made = wrote.made;
    })
    ready.devices ready.areas (Some c.in-Some.runs) c.in_ok-runs.field-0.said refl goes

pub returns-clause-steps : goal.returns-clause-steps
returns-clause-steps g c =
    let self = c.args.self.now in
    let items = self.machines.items in
    let before = c.index_mut.result.now in
    let own = g.S.Store.own self.store c.args.node in
    let none_out = c.done.ensures.no_write (search rules) in
    let was : slice_get items c.args.node ≡ Some before = slice_get-get_or items c.args.node before c.requires.there ∙ ap (λ (m : Machine). Some m) (sym c.index_mut.ensures.value) in
    was_there _ (slice_get items c.args.node) before was (put_there _ items c.args.node c.log_on.new.self before was
    (subst (λ (out : Option Sent). StepsLog own c.args.until out (g.S.Store.out_of c.write.new.self c.args.node) before c.log_on.new.self c.in_ok-runs.field-0.said) (sym none_out)
    (Some c.in-Some.runs, subst (λ r. LogGoes before c.log_on.new.self r c.in_ok-runs.field-0.said) c.in-Some.is c.in_ok-runs.ensures, λ session own_is. c.in_ok-write.ensures.is_out session own_is)))

pub returns-clause-ready : goal.returns-clause-ready
returns-clause-ready g c =
    let self = c.args.self.now in
    let items = self.machines.items in
    let before = c.index_mut.result.now in
    let was : slice_get items c.args.node ≡ Some before = slice_get-get_or items c.args.node before c.requires.there ∙ ap (λ (m : Machine). Some m) (sym c.index_mut.ensures.value) in
    let made = g.S.Store.made self.store in
    let areas = g.E.Engine.areas c.args.self.now.engine in
    let asked = g.S.Store.asked c.args.self.now.store c.args.node in
    let wrote = c.in_ok-write.ensures in
    put_there (IsReady (g.S.Store.made c.write.new.self) areas (g.S.Store.asked c.write.new.self c.args.node)) items c.args.node c.log_on.new.self before was
    (ready_at made (g.S.Store.made c.write.new.self) areas asked (g.S.Store.asked c.write.new.self c.args.node) c.log_on.new.self wrote.made (wrote.stays c.args.node).1
    (still_ready made areas asked before c.log_on.new.self (of_there (IsReady made areas asked) (slice_get items c.args.node) before was c.requires.ready) c.in_ok-runs.field-0.runs c.in_ok-runs.field-0.said c.in_ok-runs.ensures))

pub returns-clause-others : goal.returns-clause-others
returns-clause-others g c = record { others = λ other ne. set_there c.args.self.now.machines.items c.args.node other c.log_on.new.self ne }
