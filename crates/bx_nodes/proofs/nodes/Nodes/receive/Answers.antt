use Rattle.std.proofs.Common.{◌≡◌, ◌∙◌, true, ℕ, List, Option, Some, None, IfSome, refl, sym, ap, subst}
use Rattle.std.specs.Prelude.{is_some, slice_get, slice_set}
use Rattle.std.proofs.lemmas.Option.{slice_get-get_or}
use Rattle.std.proofs.lemmas.Result.{on_ok_weaker}
use Rattle.bx_facts.specs.Chains.{last}
use Rattle.bx_world_chains.proofs.Chains.{last_place}
use Rattle.bx_facts.specs.Writes.{Asked}
use Rattle.bx_node_steps.specs.Changing.{TakesAnswer}
use Rattle.bx_node_steps.specs.Ready.{IsReady, WasReady}
use Rattle.bx_node_steps.specs.Seen.{seen}
use Rattle.bx_node_steps.specs.declared.machine.Fetch.TheVariants as fetches
use Rattle.bx_node_steps.specs.declared.machine.Machine.{Machine}
use Rattle.bx_node_steps.proofs.Fitting.{fetch_block, ready_at, ready_taken, ready_then}
use Rattle.bx_nodes.proofs.Machines.{if_self, if_some, none_of, of_there, put_there, seen_others, seen_there, set_here, set_there, there_is, was_there}
use Rattle.bx_nodes.proofs.Receiving.{lost, nothing_came, still_ready, taken, waits}
use Rattle.bx_places.specs.Places.{IsBlock}
use Rattle.bx_nodes.proofs.nodes.Nodes.receive.Goals as goal

pub returns-then-not-is_reading-clause-stands : goal.returns-then-not-is_reading-clause-stands
returns-then-not-is_reading-clause-stands g c = λ x letters clocks course tree session up stands own live mine.
    let e = g.E.Engine in
    let engine = c.args.self.now.engine in
    let items = c.args.self.now.machines.items in
    let node = c.args.node in
    let made = g.S.Store.made c.args.self.now.store in
    let made_then = g.S.Store.made c.arrived.new.self in
    let areas = g.E.Engine.areas c.args.self.now.engine in
    let asked = g.S.Store.asked c.args.self.now.store node in
    let asked_then = g.S.Store.asked c.arrived.new.self node in
    let answer = g.S.Store.answer c.args.self.now.store node in
    let before = c.index_mut-then-not-is_reading.result.now in
    let after : Machine = record before { fetch = fetches.Nothing } in
    let was : slice_get items node ≡ Some before = slice_get-get_or items node before c.requires.there ∙ ap (λ (m : Machine). Some m) (sym c.index_mut-then-not-is_reading.ensures.value) in
    let none : asked_then ≡ None = none_of asked_then (sym c.is_reading.ensures ∙ c.if-not-is_reading.true) in
    let later = slice_set items node after in
    lost g.G.Register g.O.Owners g.S.Store (e.stands engine) (e.step engine) c.args.self.now.register c.args.self.now.owners c.args.self.now.store c.arrived.new.self x letters clocks (seen items) course tree node session before
    stands up own live (g.met.G.Register.allowed c.args.self.now.register x course.register (last course.register.chain) stands.at.parts.register_keeps (last_place course.register.chain)) (seen_there items node before was) (of_there (λ (m : Machine). m.session ≡ Some session) (slice_get items node) before was mine) (c.arrived.ensures.keeps x course.store stands.at.parts.store_keeps) c.arrived.ensures.made (λ other. c.arrived.ensures.stays other)
    (λ reader ne. (c.arrived.ensures.others reader ne).0) (c.arrived.ensures.goes_on x course.store stands.at.parts.store_keeps)
    (seen later) (seen_there later node after (set_here items node after before was)) (λ other ne. seen_others items later other (set_there items node other after ne)) none

pub returns-then-not-is_reading-clause-takes : goal.returns-then-not-is_reading-clause-takes
returns-then-not-is_reading-clause-takes g c =
    let items = c.args.self.now.machines.items in
    let node = c.args.node in
    let made = g.S.Store.made c.args.self.now.store in
    let made_then = g.S.Store.made c.arrived.new.self in
    let areas = g.E.Engine.areas c.args.self.now.engine in
    let asked = g.S.Store.asked c.args.self.now.store node in
    let asked_then = g.S.Store.asked c.arrived.new.self node in
    let answer = g.S.Store.answer c.args.self.now.store node in
    let before = c.index_mut-then-not-is_reading.result.now in
    let after : Machine = record before { fetch = fetches.Nothing } in
    let was : slice_get items node ≡ Some before = slice_get-get_or items node before c.requires.there ∙ ap (λ (m : Machine). Some m) (sym c.index_mut-then-not-is_reading.ensures.value) in
    let none : asked_then ≡ None = none_of asked_then (sym c.is_reading.ensures ∙ c.if-not-is_reading.true) in
    let lost_asked : asked ≡ None = sym (c.in_default.ensures.not_yet refl).0 ∙ none in
    was_there (λ (old : Machine). IfSome (slice_get (slice_set items node after) node) (TakesAnswer answer asked old)) (slice_get items node) before was
    (put_there (TakesAnswer answer asked before) items node after before was
    (subst (λ (a : Option (List ℕ)). TakesAnswer a asked before after) c.in_default.ensures.answer (subst (λ (a : Option Asked). TakesAnswer None a before after) (sym lost_asked) refl)))

pub returns-then-not-is_reading-clause-ready : goal.returns-then-not-is_reading-clause-ready
returns-then-not-is_reading-clause-ready g c =
    let items = c.args.self.now.machines.items in
    let node = c.args.node in
    let made = g.S.Store.made c.args.self.now.store in
    let made_then = g.S.Store.made c.arrived.new.self in
    let areas = g.E.Engine.areas c.args.self.now.engine in
    let asked = g.S.Store.asked c.args.self.now.store node in
    let asked_then = g.S.Store.asked c.arrived.new.self node in
    let answer = g.S.Store.answer c.args.self.now.store node in
    let before = c.index_mut-then-not-is_reading.result.now in
    let after : Machine = record before { fetch = fetches.Nothing } in
    let was : slice_get items node ≡ Some before = slice_get-get_or items node before c.requires.there ∙ ap (λ (m : Machine). Some m) (sym c.index_mut-then-not-is_reading.ensures.value) in
    let none : asked_then ≡ None = none_of asked_then (sym c.is_reading.ensures ∙ c.if-not-is_reading.true) in
    let stood = of_there (WasReady made areas asked) (slice_get items node) before was c.requires.ready in
    put_there (IsReady made_then areas asked_then) items node after before was
    (ready_at made made_then areas asked_then asked_then after c.arrived.ensures.made refl (ready_then made areas stood.before before after stood.ready asked_then refl refl refl refl none))

pub returns-then-not-is_reading-clause-others : goal.returns-then-not-is_reading-clause-others
returns-then-not-is_reading-clause-others g c = record { others = λ other ne. set_there c.args.self.now.machines.items c.args.node other (record c.index_mut-then-not-is_reading.result.now { fetch = fetches.Nothing }) ne }

pub returns-else-not-is_reading-clause-stands : goal.returns-else-not-is_reading-clause-stands
returns-else-not-is_reading-clause-stands g c = λ x letters clocks course tree session up stands own live mine.
    let e = g.E.Engine in
    let engine = c.args.self.now.engine in
    let items = c.args.self.now.machines.items in
    let node = c.args.node in
    let made = g.S.Store.made c.args.self.now.store in
    let made_then = g.S.Store.made c.arrived.new.self in
    let areas = g.E.Engine.areas c.args.self.now.engine in
    let asked = g.S.Store.asked c.args.self.now.store node in
    let asked_then = g.S.Store.asked c.arrived.new.self node in
    let answer = g.S.Store.answer c.args.self.now.store node in
    let found = there_is items node c.requires.there in
    let is_mine = subst (λ (m : Option Machine). IfSome m (λ machine. machine.session ≡ Some session)) found.1 mine in
    waits g.G.Register g.O.Owners g.S.Store (e.stands engine) (e.step engine) c.args.self.now.register c.args.self.now.owners c.args.self.now.store c.arrived.new.self x letters clocks (seen items) course tree node session found.0
    stands up own live (g.met.G.Register.allowed c.args.self.now.register x course.register (last course.register.chain) stands.at.parts.register_keeps (last_place course.register.chain)) (seen_there items node found.0 found.1) is_mine (c.arrived.ensures.keeps x course.store stands.at.parts.store_keeps) c.arrived.ensures.made (λ other. c.arrived.ensures.stays other)
    (λ reader ne. (c.arrived.ensures.others reader ne).0) (c.arrived.ensures.goes_on x course.store stands.at.parts.store_keeps) (c.in_default.ensures.not_yet refl).0

pub returns-else-not-is_reading-clause-takes : goal.returns-else-not-is_reading-clause-takes
returns-else-not-is_reading-clause-takes g c =
    let items = c.args.self.now.machines.items in
    let node = c.args.node in
    let made = g.S.Store.made c.args.self.now.store in
    let made_then = g.S.Store.made c.arrived.new.self in
    let areas = g.E.Engine.areas c.args.self.now.engine in
    let asked = g.S.Store.asked c.args.self.now.store node in
    let asked_then = g.S.Store.asked c.arrived.new.self node in
    let answer = g.S.Store.answer c.args.self.now.store node in
    let some : is_some asked ≡ true = ap (λ (a : Option Asked). is_some a) (sym (c.in_default.ensures.not_yet refl).0) ∙ sym c.is_reading.ensures ∙ c.if-not-is_reading.false in
    if_self (slice_get items node) (TakesAnswer answer asked) (λ machine. subst (λ (a : Option (List ℕ)). TakesAnswer a asked machine machine) c.in_default.ensures.answer (nothing_came asked machine some))

pub returns-else-not-is_reading-clause-ready : goal.returns-else-not-is_reading-clause-ready
returns-else-not-is_reading-clause-ready g c =
    let items = c.args.self.now.machines.items in
    let node = c.args.node in
    let made = g.S.Store.made c.args.self.now.store in
    let made_then = g.S.Store.made c.arrived.new.self in
    let areas = g.E.Engine.areas c.args.self.now.engine in
    let asked = g.S.Store.asked c.args.self.now.store node in
    let asked_then = g.S.Store.asked c.arrived.new.self node in
    let answer = g.S.Store.answer c.args.self.now.store node in
    let same = (c.in_default.ensures.not_yet refl).0 in
    let some : is_some asked ≡ true = ap (λ (a : Option Asked). is_some a) (sym same) ∙ sym c.is_reading.ensures ∙ c.if-not-is_reading.false in
    if_some (slice_get items node) (WasReady made areas asked) (IsReady made_then areas asked_then)
    (λ machine stood. ready_at made made_then areas asked asked_then machine c.arrived.ensures.made same (still_ready made areas asked machine some stood)) c.requires.ready

pub take_in-requires : goal.take_in-requires
take_in-requires g c =
    let items = c.args.self.now.machines.items in
    let node = c.args.node in
    let made = g.S.Store.made c.args.self.now.store in
    let made_then = g.S.Store.made c.arrived.new.self in
    let areas = g.E.Engine.areas c.args.self.now.engine in
    let asked = g.S.Store.asked c.args.self.now.store node in
    let asked_then = g.S.Store.asked c.arrived.new.self node in
    let answer = g.S.Store.answer c.args.self.now.store node in
    let before = c.index_mut.result.now in
    let was : slice_get items node ≡ Some before = slice_get-get_or items node before c.requires.there ∙ ap (λ (m : Machine). Some m) (sym c.index_mut.ensures.value) in
    let stood = of_there (WasReady made areas asked) (slice_get items node) before was c.requires.ready in
    record { fetch = λ at mode is. subst (λ (n : ℕ). IsBlock n at) (sym stood.ready.areas) (fetch_block made.areas stood.before before.fetch at mode stood.ready.fetch is) }

pub returns-in-Some-clause-stands : goal.returns-in-Some-clause-stands
returns-in-Some-clause-stands g c = λ x letters clocks course tree session up stands own live mine.
    let e = g.E.Engine in
    let engine = c.args.self.now.engine in
    let items = c.args.self.now.machines.items in
    let node = c.args.node in
    let before = c.index_mut.result.now in
    let after = c.take_in.new.self in
    let was : slice_get items node ≡ Some before = slice_get-get_or items node before c.requires.there ∙ ap (λ (m : Machine). Some m) (sym c.index_mut.ensures.value) in
    let is_mine : before.session ≡ Some session = subst (λ (m : Option Machine). IfSome m (λ machine. machine.session ≡ Some session)) was mine in
    let later = slice_set items node after in
    on_ok_weaker c.take_in.result
    (λ takes. taken g.G.Register g.O.Owners g.S.Store (e.stands engine) (e.step engine) c.args.self.now.register c.args.self.now.owners c.args.self.now.store c.arrived.new.self x letters clocks (seen items) course tree node session before
    stands up own live (g.met.G.Register.allowed c.args.self.now.register x course.register (last course.register.chain) stands.at.parts.register_keeps (last_place course.register.chain)) (seen_there items node before was) is_mine (c.arrived.ensures.keeps x course.store stands.at.parts.store_keeps) c.arrived.ensures.made (λ other. c.arrived.ensures.stays other)
    (λ reader ne. (c.arrived.ensures.others reader ne).0) (c.arrived.ensures.goes_on x course.store stands.at.parts.store_keeps)
    (seen later) after c.in-Some.bytes (seen_there later node after (set_here items node after before was)) (λ other ne. seen_others items later other (set_there items node other after ne))
    (λ none. let h = sym (g.met.S.Store.only_asked c.args.self.now.store node none) ∙ sym c.in-Some.ensures.answer in cc)
    (c.in-Some.ensures.taken refl).0
    (λ sector content asks reads is from to. c.in-Some.ensures.promise x course.store sector content asks stands.at.parts.store_keeps reads is from to) takes)
    c.take_in.ensures.takes

pub returns-in-Some-clause-takes : goal.returns-in-Some-clause-takes
returns-in-Some-clause-takes g c =
    let items = c.args.self.now.machines.items in
    let node = c.args.node in
    let made = g.S.Store.made c.args.self.now.store in
    let made_then = g.S.Store.made c.arrived.new.self in
    let areas = g.E.Engine.areas c.args.self.now.engine in
    let asked = g.S.Store.asked c.args.self.now.store node in
    let asked_then = g.S.Store.asked c.arrived.new.self node in
    let answer = g.S.Store.answer c.args.self.now.store node in
    let before = c.index_mut.result.now in
    let after : Machine = c.take_in.new.self in
    let was : slice_get items node ≡ Some before = slice_get-get_or items node before c.requires.there ∙ ap (λ (m : Machine). Some m) (sym c.index_mut.ensures.value) in
    on_ok_weaker c.take_in.result
    (λ takes. was_there (λ (old : Machine). IfSome (slice_get (slice_set items node after) node) (TakesAnswer answer asked old)) (slice_get items node) before was
    (put_there (TakesAnswer answer asked before) items node after before was (subst (λ (a : Option (List ℕ)). TakesAnswer a asked before after) c.in-Some.ensures.answer takes)))
    c.take_in.ensures.takes

pub returns-in-Some-clause-ready : goal.returns-in-Some-clause-ready
returns-in-Some-clause-ready g c =
    let items = c.args.self.now.machines.items in
    let node = c.args.node in
    let made = g.S.Store.made c.args.self.now.store in
    let made_then = g.S.Store.made c.arrived.new.self in
    let areas = g.E.Engine.areas c.args.self.now.engine in
    let asked = g.S.Store.asked c.args.self.now.store node in
    let asked_then = g.S.Store.asked c.arrived.new.self node in
    let answer = g.S.Store.answer c.args.self.now.store node in
    let before = c.index_mut.result.now in
    let after : Machine = c.take_in.new.self in
    let was : slice_get items node ≡ Some before = slice_get-get_or items node before c.requires.there ∙ ap (λ (m : Machine). Some m) (sym c.index_mut.ensures.value) in
    let stood = of_there (WasReady made areas asked) (slice_get items node) before was c.requires.ready in
    on_ok_weaker c.take_in.result
    (λ takes. put_there (IsReady made_then areas asked_then) items node after before was
    (ready_at made made_then areas None asked_then after c.arrived.ensures.made (c.in-Some.ensures.taken refl).0 (ready_taken made areas stood.before before after stood.ready c.in-Some.bytes takes)))
    c.take_in.ensures.takes

pub returns-in-Some-clause-others : goal.returns-in-Some-clause-others
returns-in-Some-clause-others g c = record { others = λ other ne. set_there c.args.self.now.machines.items c.args.node other c.take_in.new.self ne }
