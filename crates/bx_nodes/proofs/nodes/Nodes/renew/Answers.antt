use Rattle.std.proofs.Common.{◌≡◌, ◌∙◌, ◌<◌, Bool, Option, Some, IfSome, refl, sym, ap, subst}
use Rattle.std.specs.Prelude.{is_some, slice_get, slice_set}
use Rattle.std.proofs.lemmas.Option.{slice_get-get_or}
use Rattle.std.proofs.lemmas.Result.{on_ok_weaker}
use Rattle.bx_base.specs.declared.names.Actor.TheVariants.{Node}
use Rattle.bx_facts.specs.Chains.{Chain, last}
use Rattle.bx_global.specs.Allowed.{IsAllowed}
use Rattle.bx_global.specs.declared.state.GlobalState.{GlobalState}
use Rattle.bx_node_steps.specs.Calls.{AreApart, KeepsCalls}
use Rattle.bx_node_steps.specs.Ready.{WasReady}
use Rattle.bx_nodes.specs.Renewing.{Renews, Stays}
use Rattle.bx_node_steps.specs.declared.machine.Machine.{Machine}
use Rattle.bx_nodes.proofs.Machines.{if_same, of_there, put_there, set_there, was_there}
use Rattle.bx_nodes.proofs.Calling.{renewed_calls}
use Rattle.bx_nodes.proofs.Renewing.{is_its_own, low_slot, renews_of, stands_anew}
use Rattle.bx_nodes.proofs.Readying.{renews_ready}
use Rattle.bx_rows.specs.declared.session.SessionRow.{SessionRow}
use Rattle.bx_nodes.proofs.nodes.Nodes.renew.Goals as goal

pub returns-then-eq-clause-stands : goal.returns-then-eq-clause-stands
returns-then-eq-clause-stands g c = λ x letters clocks course tree up stands.
    let self = c.args.self.now in
    let items = self.machines.items in
    let node = c.args.node in
    let own = g.O.Owners.own self.owners node in
    let first = c.index.result.now in
    let there : slice_get items node ≡ Some first = slice_get-get_or items node first c.requires.there.0 ∙ ap (λ (m : Machine). Some m) (sym c.index.ensures) in
    (stands, was_there (λ (m : Machine). m.session ≡ own) (slice_get items node) first there (is_its_own first own c.session-own.result c.eq.result c.session-own.ensures c.eq.ensures c.if-eq.true))

pub returns-then-eq-clause-renews : goal.returns-then-eq-clause-renews
returns-then-eq-clause-renews g c =
    let self = c.args.self.now in
    let items = self.machines.items in
    let node = c.args.node in
    let own = g.O.Owners.own self.owners node in
    let known = g.G.Register.knows self.register (Node node) in
    let first = c.index.result.now in
    let there : slice_get items node ≡ Some first = slice_get-get_or items node first c.requires.there.0 ∙ ap (λ (m : Machine). Some m) (sym c.index.ensures) in
    if_same (slice_get items node) (λ (m : Machine). m.session ≡ own) (Renews own known (is_some (g.S.Store.asked self.store node))) (λ m mine. Stays mine refl)
    (was_there (λ (m : Machine). m.session ≡ own) (slice_get items node) first there (is_its_own first own c.session-own.result c.eq.result c.session-own.ensures c.eq.ensures c.if-eq.true))

pub begin_anew-requires-clause-fits : goal.begin_anew-requires-clause-fits
begin_anew-requires-clause-fits g c =
    let self = c.args.self.now in
    let items = self.machines.items in
    let node = c.args.node in
    let own = g.O.Owners.own self.owners node in
    let before = c.index_mut.result.now in
    let was : slice_get items node ≡ Some before = slice_get-get_or items node before c.requires.there.0 ∙ ap (λ (m : Machine). Some m) (sym c.index_mut.ensures.value) in
    let made = g.S.Store.made self.store in
    let areas = g.E.Engine.areas self.engine in
    let asked = g.S.Store.asked self.store node in
    let ready = of_there (WasReady made areas asked) (slice_get items node) before was c.requires.ready in
    ready.ready.fits

pub begin_anew-requires-clause-slot : goal.begin_anew-requires-clause-slot
begin_anew-requires-clause-slot g c =
    subst (λ (found : Option SessionRow). IfSome found (λ row. row.slot < 8)) (sym c.row_of-row.ensures) (low_slot c.known.result.now c.session-own.result c.known.ensures.allowed)

pub returns-clause-stands : goal.returns-clause-stands
returns-clause-stands g c = λ x letters clocks course tree up stands.
    let self = c.args.self.now in
    let items = self.machines.items in
    let node = c.args.node in
    let own = g.O.Owners.own self.owners node in
    let known = g.G.Register.knows self.register (Node node) in
    let first = c.index.result.now in
    let there : slice_get items node ≡ Some first = slice_get-get_or items node first c.requires.there.0 ∙ ap (λ (m : Machine). Some m) (sym c.index.ensures) in
    let before = c.index_mut.result.now in
    let was : slice_get items node ≡ Some before = slice_get-get_or items node before c.requires.there.0 ∙ ap (λ (m : Machine). Some m) (sym c.index_mut.ensures.value) in
    let after = c.begin_anew.new.self in
    let made = g.S.Store.made self.store in
    let areas = g.E.Engine.areas self.engine in
    let asked = g.S.Store.asked self.store node in
    let ready = of_there (WasReady made areas asked) (slice_get items node) before was c.requires.ready in
    let e = g.E.Engine in
    let keeps = stands.at.parts.register_keeps in
    on_ok_weaker c.begin_anew.result
    (λ begins. let r = stands_anew g.G.Register g.O.Owners g.S.Store (e.stands self.engine) (e.step self.engine) self.register self.owners self.store x letters clocks items course tree node before after stands up
    (record { each = λ s place. g.met.G.Register.allowed self.register x course.register s keeps place }) (g.met.G.Register.legal self.register x course.register keeps) (g.met.G.Register.places self.register x course.register (Node node) keeps)
    (λ session is. subst (λ (chain : Chain). session < (last chain).next_session) stands.at.pasts.owners_chain (g.met.O.Owners.was_opened self.owners course.owners node session stands.at.parts.owners_keep is))
    was ready.ready.devices (subst (λ (b : Bool). Renews own known b before after) c.is_reading-reads.ensures (renews_of (slice_get items node) first before after own c.session-own.result known c.known.result.now c.row_of-row.result c.is_reading-reads.result c.eq.result there was c.session-own.ensures c.known.ensures.knows c.row_of-row.ensures c.eq.ensures c.if-eq.false begins)) in
    (r.0, put_there (λ (m : Machine). m.session ≡ own) items node after before was r.1))
    c.begin_anew.ensures

pub returns-clause-renews : goal.returns-clause-renews
returns-clause-renews g c =
    let self = c.args.self.now in
    let items = self.machines.items in
    let node = c.args.node in
    let own = g.O.Owners.own self.owners node in
    let known = g.G.Register.knows self.register (Node node) in
    let first = c.index.result.now in
    let there : slice_get items node ≡ Some first = slice_get-get_or items node first c.requires.there.0 ∙ ap (λ (m : Machine). Some m) (sym c.index.ensures) in
    let before = c.index_mut.result.now in
    let was : slice_get items node ≡ Some before = slice_get-get_or items node before c.requires.there.0 ∙ ap (λ (m : Machine). Some m) (sym c.index_mut.ensures.value) in
    let after = c.begin_anew.new.self in
    on_ok_weaker c.begin_anew.result
    (λ begins. was_there (λ (old : Machine). IfSome (slice_get (slice_set items node after) node) (Renews own known (is_some (g.S.Store.asked self.store node)) old)) (slice_get items node) before was (put_there (Renews own known (is_some (g.S.Store.asked self.store node)) before) items node after before was
    (subst (λ (b : Bool). Renews own known b before after) c.is_reading-reads.ensures (renews_of (slice_get items node) first before after own c.session-own.result known c.known.result.now c.row_of-row.result c.is_reading-reads.result c.eq.result there was c.session-own.ensures c.known.ensures.knows c.row_of-row.ensures c.eq.ensures c.if-eq.false begins))))
    c.begin_anew.ensures

pub returns-clause-calls : goal.returns-clause-calls
returns-clause-calls g c =
    let self = c.args.self.now in
    let items = self.machines.items in
    let node = c.args.node in
    let own = g.O.Owners.own self.owners node in
    let known = g.G.Register.knows self.register (Node node) in
    let first = c.index.result.now in
    let there : slice_get items node ≡ Some first = slice_get-get_or items node first c.requires.there.0 ∙ ap (λ (m : Machine). Some m) (sym c.index.ensures) in
    let before = c.index_mut.result.now in
    let was : slice_get items node ≡ Some before = slice_get-get_or items node before c.requires.there.0 ∙ ap (λ (m : Machine). Some m) (sym c.index_mut.ensures.value) in
    let after = c.begin_anew.new.self in
    on_ok_weaker c.begin_anew.result
    (λ begins. was_there (λ (old : Machine). IfSome (slice_get (slice_set items node after) node) (λ (new : Machine). AreApart old → KeepsCalls old new)) (slice_get items node) before was
    (put_there (λ (new : Machine). AreApart before → KeepsCalls before new) items node after before was (renewed_calls own known (is_some (g.S.Store.asked self.store node)) before after
    (subst (λ (b : Bool). Renews own known b before after) c.is_reading-reads.ensures (renews_of (slice_get items node) first before after own c.session-own.result known c.known.result.now c.row_of-row.result c.is_reading-reads.result c.eq.result there was c.session-own.ensures c.known.ensures.knows c.row_of-row.ensures c.eq.ensures c.if-eq.false begins)))))
    c.begin_anew.ensures

pub returns-clause-ready : goal.returns-clause-ready
returns-clause-ready g c =
    let self = c.args.self.now in
    let items = self.machines.items in
    let node = c.args.node in
    let own = g.O.Owners.own self.owners node in
    let known = g.G.Register.knows self.register (Node node) in
    let first = c.index.result.now in
    let there : slice_get items node ≡ Some first = slice_get-get_or items node first c.requires.there.0 ∙ ap (λ (m : Machine). Some m) (sym c.index.ensures) in
    let before = c.index_mut.result.now in
    let was : slice_get items node ≡ Some before = slice_get-get_or items node before c.requires.there.0 ∙ ap (λ (m : Machine). Some m) (sym c.index_mut.ensures.value) in
    let after = c.begin_anew.new.self in
    let made = g.S.Store.made self.store in
    let areas = g.E.Engine.areas self.engine in
    let asked = g.S.Store.asked self.store node in
    let ready = of_there (WasReady made areas asked) (slice_get items node) before was c.requires.ready in
    on_ok_weaker c.begin_anew.result
    (λ begins. put_there (WasReady made areas asked) items node after before was (renews_ready made areas own asked before after ready known (low_slot known own (subst (λ (s : GlobalState). ∥ IsAllowed s ∥₁) c.known.ensures.knows c.known.ensures.allowed))
    (subst (λ (b : Bool). Renews own known b before after) c.is_reading-reads.ensures (renews_of (slice_get items node) first before after own c.session-own.result known c.known.result.now c.row_of-row.result c.is_reading-reads.result c.eq.result there was c.session-own.ensures c.known.ensures.knows c.row_of-row.ensures c.eq.ensures c.if-eq.false begins))))
    c.begin_anew.ensures

pub returns-clause-others : goal.returns-clause-others
returns-clause-others g c = record { others = λ other ne. set_there c.args.self.now.machines.items c.args.node other c.begin_anew.new.self ne }
