use Rattle.std.proofs.Common.{◌≡◌, ◌∙◌, ◌++◌, Result, Ok, Err, OnOk, IfSome, rules, sym, ap, subst}
use Rattle.std.specs.Prelude.{false, is_err, slice_get}
use Rattle.bx_calls.specs.Calls.{LeavesOnly}
use Rattle.bx_calls.specs.Laws.{leaves_then}
use Rattle.bx_facts.specs.Writes.{store_failed, store_restarted}
use Rattle.bx_node_events.proofs.Failing.{RegisterFails, register_fails_too, store_fails}
use Rattle.bx_node_events.proofs.Registered.{HandedLaws}
use Rattle.bx_node_events.proofs.Starting.{OwnersStart, RegisterStarts, StoreTries, starts}
use Rattle.bx_node_events.proofs.Stopping.{OwnersStop, StoreStops}
use Rattle.bx_node_steps.specs.Ready.{WasReady}
use Rattle.bx_node_steps.specs.Seen.{seen}
use Rattle.bx_nodes.proofs.Calling.{empties_apart}
use Rattle.bx_nodes.proofs.Emptied.{empties_ready}
use Rattle.bx_nodes.proofs.Machines.{ok_so}
use Rattle.bx_nodes.proofs.Moments.{MomentLaws, register_starts, store_starts}
use Rattle.bx_nodes.proofs.Stopping.{empty_stands, with_parts}
use Rattle.bx_world_volumes.specs.Left.{MayShow}
use Rattle.bx_nodes.proofs.nodes.Nodes.restart.Goals as goal

-- where a call succeeds, what it promises of success holds
where_ok : {A E Q : Type 0} (result : Result A E) → (((X : Type 0) → OnOk result X → X) → Q) → OnOk result Q
where_ok (Ok value) so = so (λ X there. there)
where_ok (Err error) so = tt

ok_there : {A E : Type 0} (result : Result A E) → is_err result ≡ false → (X : Type 0) → OnOk result X → X
ok_there (Ok value) is X there = there
ok_there (Err error) is X there = absurd cc

pub returns-then-is_err-clause-failed : goal.returns-then-is_err-clause-failed
returns-then-is_err-clause-failed g c = λ letters clocks course tree tells down above steady stands fault.
    let e = g.E.Engine in
    let self = c.args.self.now in
    let base = c.empty.new.self in
    let parts = c.empty.ensures.parts in
    let x = g.R.Rack.state c.args.rack.now in
    let y = g.R.Rack.state c.restart-stored.new.rack in
    let who = c.args.who in
    let boot = c.args.boot in
    let reading = c.args.reading in
    let box = c.args.out.now in
    let laws : HandedLaws g.G.Register g.O.Owners g.S.Store = record {
      allowed = g.met.G.Register.allowed;
      legal = g.met.G.Register.legal;
      places = g.met.G.Register.places;
      registers_elsewhere = g.met.G.Register.elsewhere;
      registers_lose = g.met.G.Register.loses;
      lives = g.met.O.Owners.lives;
      apart = λ one past keeps. record { each = λ session other block hold other_hold has has_other ne is is_other. g.met.O.Owners.apart one past session other block hold other_hold keeps has has_other ne is is_other };
      alone = g.met.O.Owners.alone;
      owners_grow = g.met.O.Owners.grows;
      owners_lose = g.met.O.Owners.loses;
      own_out = g.met.S.Store.own_out;
      stores_grow = g.met.S.Store.grows;
      stores_elsewhere = g.met.S.Store.elsewhere;
      stores_lose = g.met.S.Store.loses;
    } in
    let ready = with_parts g.G.Register g.O.Owners g.S.Store e.stands e.step self.register base.register self.owners base.owners self.store base.store self.engine base.engine parts.0 parts.1 parts.2 parts.3
    x (letters ++ box) clocks (seen base.machines.items) course tree
    (empty_stands g.G.Register g.O.Owners g.S.Store (e.stands self.engine) (e.step self.engine) self.register self.owners self.store x (letters ++ box) clocks self.machines.items base.machines.items course tree who down c.empty.ensures.empties c.empty.ensures.same stands) in
    let did = c.restart-stored.ensures in
    let store_tries : StoreTries g.S.Store base.store c.restart-stored.new.self x y who boot reading (λ past. store_failed past who boot reading) = record {
      keeps = λ past keeps may. did.keeps_faulted past tells keeps may fault;
      stands = λ past d s content index keeps may only was. (did.stands past d s content index tells keeps may only was).1 fault;
      reads = λ past node s content asks keeps may differ asked only was. (did.reads past node s content asks tells keeps may differ asked only was).1 fault;
      others = λ node differ. let same = c.restart-stored.ensures.others node differ in (same.0, same.1, same.2);
      made = c.restart-stored.ensures.made;
      sizes = c.restart-stored.ensures.rack.sizes;
      replicas = (c.restart-stored.ensures.replicas tells).0;
      labels = (c.restart-stored.ensures.replicas tells).1;
    } in
    let store_stops : StoreStops g.S.Store c.restart-stored.new.self c.crash.new.self who = record {
      keeps = c.crash.ensures.keeps;
      stands = c.crash.ensures.stands;
      reads = c.crash.ensures.reads;
      others = λ node differ. let same = c.crash.ensures.others node differ in (same.0, same.1, same.2);
      made = c.crash.ensures.made;
    } in
    let all = store_fails g.G.Register g.O.Owners g.S.Store (e.stands base.engine) (e.step base.engine) laws base.register base.owners base.store c.restart-stored.new.self c.crash.new.self x y letters box clocks (seen base.machines.items) course tree who boot reading
    store_stops ready down above steady store_tries in
    record { later = all.0; chain = all.1; logs = all.2; works = all.4; stands = all.3 }

pub returns-then-is_err-2-clause-failed : goal.returns-then-is_err-2-clause-failed
returns-then-is_err-2-clause-failed g c = λ letters clocks course tree tells down above steady stands fault.
    let e = g.E.Engine in
    let self = c.args.self.now in
    let base = c.empty.new.self in
    let parts = c.empty.ensures.parts in
    let x = g.R.Rack.state c.args.rack.now in
    let y = g.R.Rack.state c.restart-stored.new.rack in
    let who = c.args.who in
    let boot = c.args.boot in
    let reading = c.args.reading in
    let box = c.args.out.now in
    let laws : HandedLaws g.G.Register g.O.Owners g.S.Store = record {
      allowed = g.met.G.Register.allowed;
      legal = g.met.G.Register.legal;
      places = g.met.G.Register.places;
      registers_elsewhere = g.met.G.Register.elsewhere;
      registers_lose = g.met.G.Register.loses;
      lives = g.met.O.Owners.lives;
      apart = λ one past keeps. record { each = λ session other block hold other_hold has has_other ne is is_other. g.met.O.Owners.apart one past session other block hold other_hold keeps has has_other ne is is_other };
      alone = g.met.O.Owners.alone;
      owners_grow = g.met.O.Owners.grows;
      owners_lose = g.met.O.Owners.loses;
      own_out = g.met.S.Store.own_out;
      stores_grow = g.met.S.Store.grows;
      stores_elsewhere = g.met.S.Store.elsewhere;
      stores_lose = g.met.S.Store.loses;
    } in
    let ready = with_parts g.G.Register g.O.Owners g.S.Store e.stands e.step self.register base.register self.owners base.owners self.store base.store self.engine base.engine parts.0 parts.1 parts.2 parts.3
    x (letters ++ box) clocks (seen base.machines.items) course tree
    (empty_stands g.G.Register g.O.Owners g.S.Store (e.stands self.engine) (e.step self.engine) self.register self.owners self.store x (letters ++ box) clocks self.machines.items base.machines.items course tree who down c.empty.ensures.empties c.empty.ensures.same stands) in
    let did = c.restart-stored.ensures in
    let went = λ (X : Type 0) (there : OnOk c.restart-stored.result X). ok_there c.restart-stored.result (search rules) X there in
    let store_tries : StoreTries g.S.Store base.store c.restart-stored.new.self x y who boot reading (λ past. store_restarted past who boot reading) = record {
      keeps = λ past keeps may. went _ (did.keeps past tells keeps may);
      stands = λ past d s content index keeps may only was. went _ (did.stands past d s content index tells keeps may only was).0;
      reads = λ past node s content asks keeps may differ asked only was. went _ (did.reads past node s content asks tells keeps may differ asked only was).0;
      others = λ node differ. let same = c.restart-stored.ensures.others node differ in (same.0, same.1, same.2);
      made = c.restart-stored.ensures.made;
      sizes = c.restart-stored.ensures.rack.sizes;
      replicas = (c.restart-stored.ensures.replicas tells).0;
      labels = (c.restart-stored.ensures.replicas tells).1;
    } in
    let still = c.restart-stored.ensures.rack.keeps_telling tells in
    let owners_start : OwnersStart g.O.Owners base.owners c.restart.new.self who boot reading = record { keeps = c.restart.ensures.keeps; others = λ node differ. (c.restart.ensures.others node differ).0 } in
    let z = g.R.Rack.state c.restart-started.new.rack in
    let register_fails : RegisterFails g.G.Register base.register c.restart-started.new.self y z who boot box = record {
      keeps = λ past keeps was_down low. c.restart-started.ensures.keeps_faulted past still keeps was_down low fault;
      others = c.restart-started.ensures.knows;
      sizes = c.restart-started.ensures.rack.sizes;
      members = (c.restart-started.ensures.members still).0;
      labels = (c.restart-started.ensures.members still).1;
    } in
    let owners_stop : OwnersStop g.O.Owners c.restart.new.self c.crash-then-is_err-2.new.self who = record { keeps = c.crash-then-is_err-2.ensures.keeps; others = λ node differ. (c.crash-then-is_err-2.ensures.others node differ).0 } in
    let store_stops : StoreStops g.S.Store c.restart-stored.new.self c.crash-then-is_err-2-2.new.self who = record {
      keeps = c.crash-then-is_err-2-2.ensures.keeps;
      stands = c.crash-then-is_err-2-2.ensures.stands;
      reads = c.crash-then-is_err-2-2.ensures.reads;
      others = λ node differ. let same = c.crash-then-is_err-2-2.ensures.others node differ in (same.0, same.1, same.2);
      made = c.crash-then-is_err-2-2.ensures.made;
    } in
    let all = register_fails_too g.G.Register g.O.Owners g.S.Store (e.stands base.engine) (e.step base.engine) laws base.register base.owners base.store c.restart-stored.new.self c.crash-then-is_err-2-2.new.self x y letters box clocks (seen base.machines.items) course tree who boot reading
    store_stops ready down above steady c.restart-started.new.self c.restart.new.self c.crash-then-is_err-2.new.self z store_tries owners_start register_fails owners_stop in
    record { later = all.0; chain = all.1; logs = all.2; works = all.4; stands = all.3 }

pub returns-else-is_err-2-clause-stands : goal.returns-else-is_err-2-clause-stands
returns-else-is_err-2-clause-stands g c = λ letters clocks course tree tells down above steady may_start stands. where_ok c.restart-started.result (λ there.
    let e = g.E.Engine in
    let self = c.args.self.now in
    let base = c.empty.new.self in
    let parts = c.empty.ensures.parts in
    let x = g.R.Rack.state c.args.rack.now in
    let y = g.R.Rack.state c.restart-stored.new.rack in
    let who = c.args.who in
    let boot = c.args.boot in
    let reading = c.args.reading in
    let box = c.args.out.now in
    let laws : HandedLaws g.G.Register g.O.Owners g.S.Store = record {
      allowed = g.met.G.Register.allowed;
      legal = g.met.G.Register.legal;
      places = g.met.G.Register.places;
      registers_elsewhere = g.met.G.Register.elsewhere;
      registers_lose = g.met.G.Register.loses;
      lives = g.met.O.Owners.lives;
      apart = λ one past keeps. record { each = λ session other block hold other_hold has has_other ne is is_other. g.met.O.Owners.apart one past session other block hold other_hold keeps has has_other ne is is_other };
      alone = g.met.O.Owners.alone;
      owners_grow = g.met.O.Owners.grows;
      owners_lose = g.met.O.Owners.loses;
      own_out = g.met.S.Store.own_out;
      stores_grow = g.met.S.Store.grows;
      stores_elsewhere = g.met.S.Store.elsewhere;
      stores_lose = g.met.S.Store.loses;
    } in
    let ready = with_parts g.G.Register g.O.Owners g.S.Store e.stands e.step self.register base.register self.owners base.owners self.store base.store self.engine base.engine parts.0 parts.1 parts.2 parts.3
    x (letters ++ box) clocks (seen base.machines.items) course tree
    (empty_stands g.G.Register g.O.Owners g.S.Store (e.stands self.engine) (e.step self.engine) self.register self.owners self.store x (letters ++ box) clocks self.machines.items base.machines.items course tree who down c.empty.ensures.empties c.empty.ensures.same stands) in
    let did = c.restart-stored.ensures in
    let went = λ (X : Type 0) (there : OnOk c.restart-stored.result X). ok_there c.restart-stored.result (search rules) X there in
    let store_tries : StoreTries g.S.Store base.store c.restart-stored.new.self x y who boot reading (λ past. store_restarted past who boot reading) = record {
      keeps = λ past keeps may. went _ (did.keeps past tells keeps may);
      stands = λ past d s content index keeps may only was. went _ (did.stands past d s content index tells keeps may only was).0;
      reads = λ past node s content asks keeps may differ asked only was. went _ (did.reads past node s content asks tells keeps may differ asked only was).0;
      others = λ node differ. let same = c.restart-stored.ensures.others node differ in (same.0, same.1, same.2);
      made = c.restart-stored.ensures.made;
      sizes = c.restart-stored.ensures.rack.sizes;
      replicas = (c.restart-stored.ensures.replicas tells).0;
      labels = (c.restart-stored.ensures.replicas tells).1;
    } in
    let still = c.restart-stored.ensures.rack.keeps_telling tells in
    let owners_start : OwnersStart g.O.Owners base.owners c.restart.new.self who boot reading = record { keeps = c.restart.ensures.keeps; others = λ node differ. (c.restart.ensures.others node differ).0 } in
    let z = g.R.Rack.state c.restart-started.new.rack in
    let register_starts : RegisterStarts g.G.Register base.register c.restart-started.new.self y z who boot box c.restart-started.new.out = record {
      keeps = λ past keeps was_down low. there _ (c.restart-started.ensures.keeps past still keeps was_down low);
      others = c.restart-started.ensures.knows;
      sent = there _ c.restart-started.ensures.sent;
      sizes = c.restart-started.ensures.rack.sizes;
      members = (c.restart-started.ensures.members still).0;
      labels = (c.restart-started.ensures.members still).1;
    } in
    let all = starts g.G.Register g.O.Owners g.S.Store (e.stands base.engine) (e.step base.engine) laws base.register c.restart-started.new.self base.owners c.restart.new.self base.store c.restart-stored.new.self x y z letters box c.restart-started.new.out
    clocks (seen base.machines.items) course tree who boot reading ready down above steady
    (λ node session row same has alive of so. (may_start node same).none session row has alive of (so (may_start node same).by))
    register_starts owners_start (λ node same. c.restart.ensures.own (may_start node same).separate.0 node same)
    store_tries (λ node same. (went _ (did.own (may_start node same).separate.1 node same)).0) in
    record { later = all.0; chain = all.1; logs = all.2; works = all.4; stands = all.3 })

pub returns-then-is_err-clause-any_moment : goal.returns-then-is_err-clause-any_moment
returns-then-is_err-clause-any_moment g c = λ letters clocks course tree tells down above steady stands.
    let e = g.E.Engine in
    let self = c.args.self.now in
    let base = c.empty.new.self in
    let parts = c.empty.ensures.parts in
    let x = g.R.Rack.state c.args.rack.now in
    let y = g.R.Rack.state c.restart-stored.new.rack in
    let who = c.args.who in
    let boot = c.args.boot in
    let reading = c.args.reading in
    let box = c.args.out.now in
    let laws : HandedLaws g.G.Register g.O.Owners g.S.Store = record {
      allowed = g.met.G.Register.allowed;
      legal = g.met.G.Register.legal;
      places = g.met.G.Register.places;
      registers_elsewhere = g.met.G.Register.elsewhere;
      registers_lose = g.met.G.Register.loses;
      lives = g.met.O.Owners.lives;
      apart = λ one past keeps. record { each = λ session other block hold other_hold has has_other ne is is_other. g.met.O.Owners.apart one past session other block hold other_hold keeps has has_other ne is is_other };
      alone = g.met.O.Owners.alone;
      owners_grow = g.met.O.Owners.grows;
      owners_lose = g.met.O.Owners.loses;
      own_out = g.met.S.Store.own_out;
      stores_grow = g.met.S.Store.grows;
      stores_elsewhere = g.met.S.Store.elsewhere;
      stores_lose = g.met.S.Store.loses;
    } in
    let moments : MomentLaws g.G.Register g.S.Store = record {
      reads_next = g.met.G.Register.reads_next;
      settles = g.met.S.Store.settles;
      settled_is = g.met.S.Store.settled_is;
      labelled = g.met.S.Store.labelled;
    } in
    let ready = with_parts g.G.Register g.O.Owners g.S.Store e.stands e.step self.register base.register self.owners base.owners self.store base.store self.engine base.engine parts.0 parts.1 parts.2 parts.3
    x (letters ++ box) clocks (seen base.machines.items) course tree
    (empty_stands g.G.Register g.O.Owners g.S.Store (e.stands self.engine) (e.step self.engine) self.register self.owners self.store x (letters ++ box) clocks self.machines.items base.machines.items course tree who down c.empty.ensures.empties c.empty.ensures.same stands) in
    subst (λ register. LeavesOnly (g.R.Rack.moment c.args.rack.now) (g.R.Rack.moment c.restart-stored.new.rack) (g.R.Rack.left_since c.args.rack.now) (g.R.Rack.left_since c.restart-stored.new.rack) (MayShow (g.G.Register.reads_as (g.G.Register.made register) x.sizes) (g.S.Store.made self.store) x.sizes course)) parts.0
    (subst (λ store. LeavesOnly (g.R.Rack.moment c.args.rack.now) (g.R.Rack.moment c.restart-stored.new.rack) (g.R.Rack.left_since c.args.rack.now) (g.R.Rack.left_since c.restart-stored.new.rack) (MayShow (g.G.Register.reads_as (g.G.Register.made base.register) x.sizes) (g.S.Store.made store) x.sizes course)) parts.2
    (store_starts g.G.Register g.O.Owners g.S.Store (e.stands base.engine) (e.step base.engine) laws moments base.register base.owners base.store x y letters box clocks (seen base.machines.items) who course tree ready boot reading down above steady
    (g.R.Rack.moment c.args.rack.now) (g.R.Rack.moment c.restart-stored.new.rack) (g.R.Rack.left_since c.args.rack.now) (g.R.Rack.left_since c.restart-stored.new.rack)
    (λ d s unsure. g.met.R.Rack.there c.args.rack.now d s tells unsure) (λ one keeps may. c.restart-stored.ensures.any_moment one tells keeps may)))

pub returns-then-is_err-2-clause-any_moment : goal.returns-then-is_err-2-clause-any_moment
returns-then-is_err-2-clause-any_moment g c = λ letters clocks course tree tells down above steady stands.
    let e = g.E.Engine in
    let self = c.args.self.now in
    let base = c.empty.new.self in
    let parts = c.empty.ensures.parts in
    let x = g.R.Rack.state c.args.rack.now in
    let y = g.R.Rack.state c.restart-stored.new.rack in
    let who = c.args.who in
    let boot = c.args.boot in
    let reading = c.args.reading in
    let box = c.args.out.now in
    let laws : HandedLaws g.G.Register g.O.Owners g.S.Store = record {
      allowed = g.met.G.Register.allowed;
      legal = g.met.G.Register.legal;
      places = g.met.G.Register.places;
      registers_elsewhere = g.met.G.Register.elsewhere;
      registers_lose = g.met.G.Register.loses;
      lives = g.met.O.Owners.lives;
      apart = λ one past keeps. record { each = λ session other block hold other_hold has has_other ne is is_other. g.met.O.Owners.apart one past session other block hold other_hold keeps has has_other ne is is_other };
      alone = g.met.O.Owners.alone;
      owners_grow = g.met.O.Owners.grows;
      owners_lose = g.met.O.Owners.loses;
      own_out = g.met.S.Store.own_out;
      stores_grow = g.met.S.Store.grows;
      stores_elsewhere = g.met.S.Store.elsewhere;
      stores_lose = g.met.S.Store.loses;
    } in
    let moments : MomentLaws g.G.Register g.S.Store = record {
      reads_next = g.met.G.Register.reads_next;
      settles = g.met.S.Store.settles;
      settled_is = g.met.S.Store.settled_is;
      labelled = g.met.S.Store.labelled;
    } in
    let ready = with_parts g.G.Register g.O.Owners g.S.Store e.stands e.step self.register base.register self.owners base.owners self.store base.store self.engine base.engine parts.0 parts.1 parts.2 parts.3
    x (letters ++ box) clocks (seen base.machines.items) course tree
    (empty_stands g.G.Register g.O.Owners g.S.Store (e.stands self.engine) (e.step self.engine) self.register self.owners self.store x (letters ++ box) clocks self.machines.items base.machines.items course tree who down c.empty.ensures.empties c.empty.ensures.same stands) in
    let did = c.restart-stored.ensures in
    let went = λ (X : Type 0) (there : OnOk c.restart-stored.result X). ok_there c.restart-stored.result (search rules) X there in
    let store_tries : StoreTries g.S.Store base.store c.restart-stored.new.self x y who boot reading (λ past. store_restarted past who boot reading) = record {
      keeps = λ past keeps may. went _ (did.keeps past tells keeps may);
      stands = λ past d s content index keeps may only was. went _ (did.stands past d s content index tells keeps may only was).0;
      reads = λ past node s content asks keeps may differ asked only was. went _ (did.reads past node s content asks tells keeps may differ asked only was).0;
      others = λ node differ. let same = c.restart-stored.ensures.others node differ in (same.0, same.1, same.2);
      made = c.restart-stored.ensures.made;
      sizes = c.restart-stored.ensures.rack.sizes;
      replicas = (c.restart-stored.ensures.replicas tells).0;
      labels = (c.restart-stored.ensures.replicas tells).1;
    } in
    let still = c.restart-stored.ensures.rack.keeps_telling tells in
    let shown = MayShow (g.G.Register.reads_as (g.G.Register.made base.register) x.sizes) (g.S.Store.made base.store) x.sizes course in
    subst (λ register. LeavesOnly (g.R.Rack.moment c.args.rack.now) (g.R.Rack.moment c.restart-started.new.rack) (g.R.Rack.left_since c.args.rack.now) (g.R.Rack.left_since c.restart-started.new.rack) (MayShow (g.G.Register.reads_as (g.G.Register.made register) x.sizes) (g.S.Store.made self.store) x.sizes course)) parts.0
    (subst (λ store. LeavesOnly (g.R.Rack.moment c.args.rack.now) (g.R.Rack.moment c.restart-started.new.rack) (g.R.Rack.left_since c.args.rack.now) (g.R.Rack.left_since c.restart-started.new.rack) (MayShow (g.G.Register.reads_as (g.G.Register.made base.register) x.sizes) (g.S.Store.made store) x.sizes course)) parts.2
    (leaves_then (g.R.Rack.moment c.args.rack.now) (g.R.Rack.moment c.restart-stored.new.rack) (g.R.Rack.moment c.restart-started.new.rack) (g.R.Rack.left_since c.args.rack.now) (g.R.Rack.left_since c.restart-stored.new.rack) (g.R.Rack.left_since c.restart-started.new.rack) shown shown
    (store_starts g.G.Register g.O.Owners g.S.Store (e.stands base.engine) (e.step base.engine) laws moments base.register base.owners base.store x y letters box clocks (seen base.machines.items) who course tree ready boot reading down above steady
    (g.R.Rack.moment c.args.rack.now) (g.R.Rack.moment c.restart-stored.new.rack) (g.R.Rack.left_since c.args.rack.now) (g.R.Rack.left_since c.restart-stored.new.rack)
    (λ d s unsure. g.met.R.Rack.there c.args.rack.now d s tells unsure) (λ one keeps may. c.restart-stored.ensures.any_moment one tells keeps may))
    (register_starts g.G.Register g.O.Owners g.S.Store (e.stands base.engine) (e.step base.engine) laws moments base.register base.owners base.store x y letters box clocks (seen base.machines.items) who course tree ready boot reading down above steady
    (g.R.Rack.moment c.restart-stored.new.rack) (g.R.Rack.moment c.restart-started.new.rack) (g.R.Rack.left_since c.restart-stored.new.rack) (g.R.Rack.left_since c.restart-started.new.rack) c.restart-stored.new.self store_tries
    (λ one keeps was_down low. c.restart-started.ensures.any_moment one still keeps was_down low))
    (λ image is. is)))

pub returns-else-is_err-2-clause-any_moment : goal.returns-else-is_err-2-clause-any_moment
returns-else-is_err-2-clause-any_moment g c = λ letters clocks course tree tells down above steady stands.
    let e = g.E.Engine in
    let self = c.args.self.now in
    let base = c.empty.new.self in
    let parts = c.empty.ensures.parts in
    let x = g.R.Rack.state c.args.rack.now in
    let y = g.R.Rack.state c.restart-stored.new.rack in
    let who = c.args.who in
    let boot = c.args.boot in
    let reading = c.args.reading in
    let box = c.args.out.now in
    let laws : HandedLaws g.G.Register g.O.Owners g.S.Store = record {
      allowed = g.met.G.Register.allowed;
      legal = g.met.G.Register.legal;
      places = g.met.G.Register.places;
      registers_elsewhere = g.met.G.Register.elsewhere;
      registers_lose = g.met.G.Register.loses;
      lives = g.met.O.Owners.lives;
      apart = λ one past keeps. record { each = λ session other block hold other_hold has has_other ne is is_other. g.met.O.Owners.apart one past session other block hold other_hold keeps has has_other ne is is_other };
      alone = g.met.O.Owners.alone;
      owners_grow = g.met.O.Owners.grows;
      owners_lose = g.met.O.Owners.loses;
      own_out = g.met.S.Store.own_out;
      stores_grow = g.met.S.Store.grows;
      stores_elsewhere = g.met.S.Store.elsewhere;
      stores_lose = g.met.S.Store.loses;
    } in
    let moments : MomentLaws g.G.Register g.S.Store = record {
      reads_next = g.met.G.Register.reads_next;
      settles = g.met.S.Store.settles;
      settled_is = g.met.S.Store.settled_is;
      labelled = g.met.S.Store.labelled;
    } in
    let ready = with_parts g.G.Register g.O.Owners g.S.Store e.stands e.step self.register base.register self.owners base.owners self.store base.store self.engine base.engine parts.0 parts.1 parts.2 parts.3
    x (letters ++ box) clocks (seen base.machines.items) course tree
    (empty_stands g.G.Register g.O.Owners g.S.Store (e.stands self.engine) (e.step self.engine) self.register self.owners self.store x (letters ++ box) clocks self.machines.items base.machines.items course tree who down c.empty.ensures.empties c.empty.ensures.same stands) in
    let did = c.restart-stored.ensures in
    let went = λ (X : Type 0) (there : OnOk c.restart-stored.result X). ok_there c.restart-stored.result (search rules) X there in
    let store_tries : StoreTries g.S.Store base.store c.restart-stored.new.self x y who boot reading (λ past. store_restarted past who boot reading) = record {
      keeps = λ past keeps may. went _ (did.keeps past tells keeps may);
      stands = λ past d s content index keeps may only was. went _ (did.stands past d s content index tells keeps may only was).0;
      reads = λ past node s content asks keeps may differ asked only was. went _ (did.reads past node s content asks tells keeps may differ asked only was).0;
      others = λ node differ. let same = c.restart-stored.ensures.others node differ in (same.0, same.1, same.2);
      made = c.restart-stored.ensures.made;
      sizes = c.restart-stored.ensures.rack.sizes;
      replicas = (c.restart-stored.ensures.replicas tells).0;
      labels = (c.restart-stored.ensures.replicas tells).1;
    } in
    let still = c.restart-stored.ensures.rack.keeps_telling tells in
    let shown = MayShow (g.G.Register.reads_as (g.G.Register.made base.register) x.sizes) (g.S.Store.made base.store) x.sizes course in
    subst (λ register. LeavesOnly (g.R.Rack.moment c.args.rack.now) (g.R.Rack.moment c.restart-started.new.rack) (g.R.Rack.left_since c.args.rack.now) (g.R.Rack.left_since c.restart-started.new.rack) (MayShow (g.G.Register.reads_as (g.G.Register.made register) x.sizes) (g.S.Store.made self.store) x.sizes course)) parts.0
    (subst (λ store. LeavesOnly (g.R.Rack.moment c.args.rack.now) (g.R.Rack.moment c.restart-started.new.rack) (g.R.Rack.left_since c.args.rack.now) (g.R.Rack.left_since c.restart-started.new.rack) (MayShow (g.G.Register.reads_as (g.G.Register.made base.register) x.sizes) (g.S.Store.made store) x.sizes course)) parts.2
    (leaves_then (g.R.Rack.moment c.args.rack.now) (g.R.Rack.moment c.restart-stored.new.rack) (g.R.Rack.moment c.restart-started.new.rack) (g.R.Rack.left_since c.args.rack.now) (g.R.Rack.left_since c.restart-stored.new.rack) (g.R.Rack.left_since c.restart-started.new.rack) shown shown
    (store_starts g.G.Register g.O.Owners g.S.Store (e.stands base.engine) (e.step base.engine) laws moments base.register base.owners base.store x y letters box clocks (seen base.machines.items) who course tree ready boot reading down above steady
    (g.R.Rack.moment c.args.rack.now) (g.R.Rack.moment c.restart-stored.new.rack) (g.R.Rack.left_since c.args.rack.now) (g.R.Rack.left_since c.restart-stored.new.rack)
    (λ d s unsure. g.met.R.Rack.there c.args.rack.now d s tells unsure) (λ one keeps may. c.restart-stored.ensures.any_moment one tells keeps may))
    (register_starts g.G.Register g.O.Owners g.S.Store (e.stands base.engine) (e.step base.engine) laws moments base.register base.owners base.store x y letters box clocks (seen base.machines.items) who course tree ready boot reading down above steady
    (g.R.Rack.moment c.restart-stored.new.rack) (g.R.Rack.moment c.restart-started.new.rack) (g.R.Rack.left_since c.restart-stored.new.rack) (g.R.Rack.left_since c.restart-started.new.rack) c.restart-stored.new.self store_tries
    (λ one keeps was_down low. c.restart-started.ensures.any_moment one still keeps was_down low))
    (λ image is. is)))

pub returns-then-is_err-clause-ready_failed : goal.returns-then-is_err-clause-ready_failed
returns-then-is_err-clause-ready_failed g c = λ node ready fault.
    let self = c.args.self.now in
    let base = c.empty.new.self in
    let parts = c.empty.ensures.parts in
    let here = empties_ready (g.S.Store.made self.store) (g.E.Engine.areas self.engine) c.args.who self.machines.items base.machines.items c.empty.ensures.empties node (g.S.Store.asked self.store node) (g.S.Store.asked c.crash.new.self node)
    (λ differ. (c.crash.ensures.others node differ).2 ∙ (c.restart-stored.ensures.others node differ).2 ∙ ap (λ s. g.S.Store.asked s node) parts.2) (λ same. (c.crash.ensures.ended node same).2) ready in
    (subst (λ engine. IfSome (slice_get base.machines.items node) (WasReady (g.S.Store.made c.crash.new.self) (g.E.Engine.areas engine) (g.S.Store.asked c.crash.new.self node))) (sym parts.3)
    (subst (λ made. IfSome (slice_get base.machines.items node) (WasReady made (g.E.Engine.areas self.engine) (g.S.Store.asked c.crash.new.self node))) (sym (c.crash.ensures.made ∙ c.restart-stored.ensures.made ∙ ap (λ s. g.S.Store.made s) parts.2)) here))

pub returns-then-is_err-2-clause-ready_failed : goal.returns-then-is_err-2-clause-ready_failed
returns-then-is_err-2-clause-ready_failed g c = λ node ready fault.
    let self = c.args.self.now in
    let base = c.empty.new.self in
    let parts = c.empty.ensures.parts in
    let here = empties_ready (g.S.Store.made self.store) (g.E.Engine.areas self.engine) c.args.who self.machines.items base.machines.items c.empty.ensures.empties node (g.S.Store.asked self.store node) (g.S.Store.asked c.crash-then-is_err-2-2.new.self node)
    (λ differ. (c.crash-then-is_err-2-2.ensures.others node differ).2 ∙ (c.restart-stored.ensures.others node differ).2 ∙ ap (λ s. g.S.Store.asked s node) parts.2) (λ same. (c.crash-then-is_err-2-2.ensures.ended node same).2) ready in
    (subst (λ engine. IfSome (slice_get base.machines.items node) (WasReady (g.S.Store.made c.crash-then-is_err-2-2.new.self) (g.E.Engine.areas engine) (g.S.Store.asked c.crash-then-is_err-2-2.new.self node))) (sym parts.3)
    (subst (λ made. IfSome (slice_get base.machines.items node) (WasReady made (g.E.Engine.areas self.engine) (g.S.Store.asked c.crash-then-is_err-2-2.new.self node))) (sym (c.crash-then-is_err-2-2.ensures.made ∙ c.restart-stored.ensures.made ∙ ap (λ s. g.S.Store.made s) parts.2)) here))

pub returns-else-is_err-2-clause-ready : goal.returns-else-is_err-2-clause-ready
returns-else-is_err-2-clause-ready g c = λ node apart ready.
    let self = c.args.self.now in
    let base = c.empty.new.self in
    let parts = c.empty.ensures.parts in
    let here = empties_ready (g.S.Store.made self.store) (g.E.Engine.areas self.engine) c.args.who self.machines.items base.machines.items c.empty.ensures.empties node (g.S.Store.asked self.store node) (g.S.Store.asked c.restart-stored.new.self node)
    (λ differ. (c.restart-stored.ensures.others node differ).2 ∙ ap (λ s. g.S.Store.asked s node) parts.2) (λ same. (ok_there c.restart-stored.result (search rules) _ (c.restart-stored.ensures.own apart node same)).2) ready in
    ok_so _ c.restart-started.result
    (subst (λ engine. IfSome (slice_get base.machines.items node) (WasReady (g.S.Store.made c.restart-stored.new.self) (g.E.Engine.areas engine) (g.S.Store.asked c.restart-stored.new.self node))) (sym parts.3)
    (subst (λ made. IfSome (slice_get base.machines.items node) (WasReady made (g.E.Engine.areas self.engine) (g.S.Store.asked c.restart-stored.new.self node))) (sym (c.restart-stored.ensures.made ∙ ap (λ s. g.S.Store.made s) parts.2)) here))

pub returns-else-is_err-2-clause-none : goal.returns-else-is_err-2-clause-none
returns-else-is_err-2-clause-none g c = λ owners_apart store_apart node same. ok_so _ c.restart-started.result
    (let its = ok_there c.restart-stored.result (search rules) _ (c.restart-stored.ensures.own store_apart node same) in (c.restart.ensures.own owners_apart node same, its.0, its.1, its.2))

pub returns-then-is_err-clause-apart : goal.returns-then-is_err-clause-apart
returns-then-is_err-clause-apart g c = λ node apart. empties_apart c.args.who c.args.self.now.machines.items c.empty.new.self.machines.items c.empty.ensures.empties node apart

pub returns-then-is_err-2-clause-apart : goal.returns-then-is_err-2-clause-apart
returns-then-is_err-2-clause-apart g c = λ node apart. empties_apart c.args.who c.args.self.now.machines.items c.empty.new.self.machines.items c.empty.ensures.empties node apart

pub returns-else-is_err-2-clause-apart : goal.returns-else-is_err-2-clause-apart
returns-else-is_err-2-clause-apart g c = λ node apart. empties_apart c.args.who c.args.self.now.machines.items c.empty.new.self.machines.items c.empty.ensures.empties node apart
