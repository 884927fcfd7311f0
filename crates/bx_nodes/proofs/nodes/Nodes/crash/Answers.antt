use Rattle.std.proofs.Common.{◌≡◌, IfSome, sym, subst}
use Rattle.std.specs.Prelude.{slice_get}
use Rattle.bx_node_events.proofs.Registered.{HandedLaws}
use Rattle.bx_node_events.proofs.Stopping.{OwnersStop, RegisterStops, StoreStops, but_for}
use Rattle.bx_node_steps.specs.Ready.{WasReady}
use Rattle.bx_node_steps.specs.Seen.{seen}
use Rattle.bx_nodes.specs.Stopping.{with_down}
use Rattle.bx_nodes.proofs.Calling.{empties_apart}
use Rattle.bx_nodes.proofs.Emptied.{empties_ready}
use Rattle.bx_nodes.proofs.Stopping.{all_stand, with_parts}
use Rattle.bx_nodes.proofs.nodes.Nodes.crash.Goals as goal

pub returns-clause-stops : goal.returns-clause-stops
returns-clause-stops g c = λ x letters clocks course tree stands.
    let e = g.E.Engine in
    let self = c.args.self.now in
    let who = c.args.who in
    let new = c.empty.new.self in
    let parts = c.empty.ensures.parts in
    let laws : HandedLaws g.G.Register g.O.Owners g.S.Store = record {
      allowed = g.met.G.Register.allowed;
      legal = g.met.G.Register.legal;
      places = g.met.G.Register.places;
      registers_elsewhere = g.met.G.Register.elsewhere;
      registers_lose = g.met.G.Register.loses;
      lives = g.met.O.Owners.lives;
      apart = λ one past keeps. record { each = λ session other block hold other_hold has has_other ne is is_other. g.met.O.Owners.apart one past session other block hold other_hold keeps has has_other ne is is_other };
      alone = g.met.O.Owners.alone;
      owners_grow = g.met.O.Owners.grows;
      owners_lose = g.met.O.Owners.loses;
      own_out = g.met.S.Store.own_out;
      stores_grow = g.met.S.Store.grows;
      stores_elsewhere = g.met.S.Store.elsewhere;
      stores_lose = g.met.S.Store.loses;
    } in
    let register_stops : RegisterStops g.G.Register self.register c.crash.new.self who = record { keeps = c.crash.ensures.keeps; knows = c.crash.ensures.knows } in
    let owners_stop : OwnersStop g.O.Owners self.owners c.crash-2.new.self who = record { keeps = c.crash-2.ensures.keeps; others = λ node differ. (c.crash-2.ensures.others node differ).0 } in
    let store_stops : StoreStops g.S.Store self.store c.crash-3.new.self who = record {
      keeps = c.crash-3.ensures.keeps;
      stands = c.crash-3.ensures.stands;
      reads = c.crash-3.ensures.reads;
      others = λ node differ. let same = c.crash-3.ensures.others node differ in (same.0, same.1, same.2);
      made = c.crash-3.ensures.made;
    } in
    let all = all_stand g.G.Register g.O.Owners g.S.Store (e.stands self.engine) (e.step self.engine) laws self.register c.crash.new.self self.owners c.crash-2.new.self self.store c.crash-3.new.self x letters clocks
    self.machines.items new.machines.items course tree who register_stops owners_stop store_stops c.empty.ensures.empties c.empty.ensures.same stands in
    record {
      later = all.later;
      chain = all.chain;
      knew = all.knew;
      logs = all.logs;
      works = all.works;
      stands = with_parts g.G.Register g.O.Owners g.S.Store e.stands e.step c.crash.new.self new.register c.crash-2.new.self new.owners c.crash-3.new.self new.store self.engine new.engine parts.0 parts.1 parts.2 parts.3
          x letters (with_down clocks who) (seen new.machines.items) all.later tree all.stands;
    }

pub returns-clause-stands : goal.returns-clause-stands
returns-clause-stands g c = λ x letters clocks course tree stands.
    let e = g.E.Engine in
    let self = c.args.self.now in
    returns-clause-stops g c x letters clocks course tree
    (but_for g.G.Register g.O.Owners g.S.Store (e.stands self.engine) (e.step self.engine) self.register self.owners self.store x c.args.who letters clocks (seen self.machines.items) course tree stands)

pub returns-clause-holds : goal.returns-clause-holds
returns-clause-holds g c = λ node block differ.
    let apart = c.crash-2.ensures.apart node block differ in
    subst (λ owners. (g.O.Owners.hold owners node block ≡ g.O.Owners.hold c.args.self.now.owners node block) × (g.O.Owners.request owners node block ≡ g.O.Owners.request c.args.self.now.owners node block)
    × (g.O.Owners.is_separate → g.O.Owners.asks owners node ≡ g.O.Owners.asks c.args.self.now.owners node)) (sym c.empty.ensures.parts.1) apart

pub returns-clause-apart : goal.returns-clause-apart
returns-clause-apart g c = λ node apart. empties_apart c.args.who c.args.self.now.machines.items c.empty.new.self.machines.items c.empty.ensures.empties node apart

pub returns-clause-ready : goal.returns-clause-ready
returns-clause-ready g c = λ node ready.
    let self = c.args.self.now in
    let new = c.empty.new.self in
    let parts = c.empty.ensures.parts in
    let said = c.crash-3.ensures in
    let here = empties_ready (g.S.Store.made self.store) (g.E.Engine.areas self.engine) c.args.who self.machines.items new.machines.items c.empty.ensures.empties node (g.S.Store.asked self.store node) (g.S.Store.asked c.crash-3.new.self node)
    (λ differ. (said.others node differ).2) (λ same. (said.ended node same).2) ready in
    subst (λ store. IfSome (slice_get new.machines.items node) (WasReady (g.S.Store.made store) (g.E.Engine.areas new.engine) (g.S.Store.asked store node))) (sym parts.2)
    (subst (λ engine. IfSome (slice_get new.machines.items node) (WasReady (g.S.Store.made c.crash-3.new.self) (g.E.Engine.areas engine) (g.S.Store.asked c.crash-3.new.self node))) (sym parts.3)
    (subst (λ made. IfSome (slice_get new.machines.items node) (WasReady made (g.E.Engine.areas self.engine) (g.S.Store.asked c.crash-3.new.self node))) (sym said.made) here))
