use Rattle.std.proofs.Common.{◌∙◌, ⊎_elim, inl, inr, ◌++◌, None, Option, Result, Ok, Err, OnOk, refl, sym, ap, subst}
use Rattle.bx_calls.specs.Laws.{leaves_then}
use Rattle.bx_facts.specs.Pasts.{MayTake}
use Rattle.bx_facts.specs.Writes.{store_with}
use Rattle.bx_global.specs.declared.change.Change.{Change}
use Rattle.bx_global.specs.declared.state.GlobalState.{GlobalState}
use Rattle.bx_node_events.proofs.Faulted.{register_faulted, store_faulted}
use Rattle.bx_node_events.proofs.Handed.{Offered, OwnersTook, StoreTook, handed}
use Rattle.bx_node_events.proofs.Registered.{HandedLaws, RegisterTook}
use Rattle.bx_node_events.proofs.Stopping.{but_for}
use Rattle.bx_node_machines.specs.Nodes.{NodesStand}
use Rattle.bx_node_steps.specs.Seen.{seen}
use Rattle.bx_nodes.specs.Taking.{with_reading}
use Rattle.bx_nodes.proofs.Ending.{err_back}
use Rattle.bx_nodes.proofs.Machines.{ok_so}
use Rattle.bx_nodes.proofs.Moments.{MomentLaws, register_takes, store_takes}
use Rattle.bx_nodes.proofs.Readying.{ready_handed}
use Rattle.bx_world_volumes.specs.Left.{MayShow}
use Rattle.bx_nodes.proofs.nodes.Nodes.hand.Goals as goal

-- where a call succeeds, what it promises of success holds
where_ok : {A E P Q : Type 0} (result : Result A E) → (((X : Type 0) → OnOk result X → X) → P → Q) → OnOk result P → OnOk result Q
where_ok (Ok value) so is = so (λ X there. there) is
where_ok (Err error) so is = tt

pub returns-clause-stands : goal.returns-clause-stands
returns-clause-stands g c = λ letters clocks course tree tells up steady comes stands.
    let e = g.E.Engine in
    let self = c.args.self.now in
    let x = g.R.Rack.state c.args.rack.now in
    let y = g.R.Rack.state c.take.new.rack in
    let z = g.R.Rack.state c.take-3.new.rack in
    let at = c.args.at in
    let known = c.known-known.result.now in
    let input = c.args.input.now in
    let change = c.in_ok-change.change in
    let shift = c.in_ok-shift.shift in
    let box = c.args.out.now in
    let heard = c.take.new.out in
    let tended = c.take-2.new.out in
    let served = c.take-3.new.out in
    let out = c.offer.new.out in
    let still = c.take.ensures.rack.keeps_telling tells in
    let register_took : RegisterTook g.G.Register self.register c.take.new.self x y at input box heard = record {
      keeps = λ past keeps may. c.in_ok-take.ensures.keeps past tells keeps may;
      rises = c.take.ensures.rises;
      others = c.take.ensures.knows;
      sent = c.in_ok-take.ensures.sent;
      sizes = c.take.ensures.rack.sizes;
      members = (c.take.ensures.members tells).0;
      labels = (c.take.ensures.members tells).1;
    } in
    let owners_took : OwnersTook g.O.Owners self.owners c.take-2.new.self known at input change heard tended = record {
      keeps = c.in_ok-change.ensures.keeps;
      session = c.in_ok-change.ensures.session;
      others = c.in_ok-change.ensures.others;
      kind = c.in_ok-change.ensures.kind;
      sent = c.in_ok-change.ensures.sent;
    } in
    let store_took : StoreTook g.S.Store self.store c.take-3.new.self y z known at input shift tended served = record {
      keeps = λ past keeps may. c.in_ok-shift.ensures.keeps past still keeps may;
      goes_on = λ past keeps may. c.in_ok-shift.ensures.goes_on past still keeps may;
      done = λ past node write keeps may is none own live. c.in_ok-shift.ensures.done past node write still keeps may is none own live;
      session = λ past node keeps may same. c.in_ok-shift.ensures.session past node still keeps may same;
      others = c.in_ok-shift.ensures.others;
      new_session = c.in_ok-shift.ensures.new_session;
      out = c.in_ok-shift.ensures.out;
      asked = c.in_ok-shift.ensures.asked;
      kind = c.in_ok-shift.ensures.kind;
      sent = c.in_ok-shift.ensures.sent;
      made = c.in_ok-shift.ensures.made;
      sizes = c.take-3.ensures.rack.sizes;
      replicas = (c.take-3.ensures.replicas still).0;
      labels = (c.take-3.ensures.replicas still).1;
    } in
    let laws : HandedLaws g.G.Register g.O.Owners g.S.Store = record {
      allowed = g.met.G.Register.allowed;
      legal = g.met.G.Register.legal;
      places = g.met.G.Register.places;
      registers_elsewhere = g.met.G.Register.elsewhere;
      registers_lose = g.met.G.Register.loses;
      lives = g.met.O.Owners.lives;
      apart = λ one past keeps. record { each = λ session other block hold other_hold has has_other ne is is_other. g.met.O.Owners.apart one past session other block hold other_hold keeps has has_other ne is is_other };
      alone = g.met.O.Owners.alone;
      owners_grow = g.met.O.Owners.grows;
      owners_lose = g.met.O.Owners.loses;
      own_out = g.met.S.Store.own_out;
      stores_grow = g.met.S.Store.grows;
      stores_elsewhere = g.met.S.Store.elsewhere;
      stores_lose = g.met.S.Store.loses;
    } in
    where_ok c.offer.result
    (λ there proposes.
    let offered : Offered g.G.Register c.take.new.self c.offer.new.self.register z at c.or.result proposes.proposal served out = record {
      keeps = proposes.holds z;
      is_offered = proposes.is_offered;
      knows = c.offer.ensures.knows;
      sent = λ past keeps. there _ (c.offer.ensures.sent z past keeps);
    } in
    let all = handed g.G.Register g.O.Owners g.S.Store (e.stands self.engine) (e.step self.engine) laws self.register c.take.new.self c.offer.new.self.register self.owners c.take-2.new.self self.store c.take-3.new.self x y z
    letters box heard tended served out clocks (seen self.machines.items) at input change shift proposes.proposal course tree stands up steady comes register_took
    (subst (λ (s : GlobalState). OwnersTook g.O.Owners self.owners c.take-2.new.self s at input change heard tended) c.known-known.ensures.knows owners_took)
    (subst (λ (s : GlobalState). StoreTook g.S.Store self.store c.take-3.new.self y z s at input shift tended served) c.known-known.ensures.knows store_took)
    (subst (λ (offer : Option Change). Offered g.G.Register c.take.new.self c.offer.new.self.register z at offer proposes.proposal served out) c.or.ensures offered) in
    let parts = c.offer.ensures.parts in
    let then_letters = letters ++ out in
    let then_clocks = with_reading clocks input in
    let new = c.offer.new.self in
    record {
      later = all.0;
      grows = all.1;
      told = all.4;
      logs = all.3;
      works = all.5;
      stands = subst (λ machines. NodesStand g.G.Register g.O.Owners g.S.Store (e.stands new.engine) (e.step new.engine) new.register new.owners new.store z then_letters then_clocks (seen machines.items) all.0 tree) (sym parts.3)
          (subst (λ engine. NodesStand g.G.Register g.O.Owners g.S.Store (e.stands engine) (e.step engine) new.register new.owners new.store z then_letters then_clocks (seen self.machines.items) all.0 tree) (sym parts.2)
          (subst (λ store. NodesStand g.G.Register g.O.Owners g.S.Store (e.stands self.engine) (e.step self.engine) new.register new.owners store z then_letters then_clocks (seen self.machines.items) all.0 tree) (sym parts.1)
          (subst (λ owners. NodesStand g.G.Register g.O.Owners g.S.Store (e.stands self.engine) (e.step self.engine) new.register owners c.take-3.new.self z then_letters then_clocks (seen self.machines.items) all.0 tree) (sym parts.0) all.2)));
    })
    c.offer.ensures.proposes

pub returns-in_err-take-clause-faulted : goal.returns-in_err-take-clause-faulted
returns-in_err-take-clause-faulted g c = λ letters clocks course tree tells up steady comes stands fault.
    let e = g.E.Engine in
    let self = c.args.self.now in
    let x = g.R.Rack.state c.args.rack.now in
    let y = g.R.Rack.state c.take.new.rack in
    let at = c.args.at in
    let input = c.args.input.now in
    let box = c.args.out.now in
    let fails = err_back c.from_residual.result _ c.from_residual.ensures.1 fault in
    let register_took : RegisterTook g.G.Register self.register c.take.new.self x y at input box box = record {
      keeps = λ past keeps may. c.in_err-take.ensures.keeps_faulted past tells keeps may fails;
      rises = c.take.ensures.rises;
      others = c.take.ensures.knows;
      sent = record { kept = λ letter there. there; each = λ letter there. inl there };
      sizes = c.take.ensures.rack.sizes;
      members = (c.take.ensures.members tells).0;
      labels = (c.take.ensures.members tells).1;
    } in
    let laws : HandedLaws g.G.Register g.O.Owners g.S.Store = record {
      allowed = g.met.G.Register.allowed;
      legal = g.met.G.Register.legal;
      places = g.met.G.Register.places;
      registers_elsewhere = g.met.G.Register.elsewhere;
      registers_lose = g.met.G.Register.loses;
      lives = g.met.O.Owners.lives;
      apart = λ one past keeps. record { each = λ session other block hold other_hold has has_other ne is is_other. g.met.O.Owners.apart one past session other block hold other_hold keeps has has_other ne is is_other };
      alone = g.met.O.Owners.alone;
      owners_grow = g.met.O.Owners.grows;
      owners_lose = g.met.O.Owners.loses;
      own_out = g.met.S.Store.own_out;
      stores_grow = g.met.S.Store.grows;
      stores_elsewhere = g.met.S.Store.elsewhere;
      stores_lose = g.met.S.Store.loses;
    } in
    let all = register_faulted g.G.Register g.O.Owners g.S.Store (e.stands self.engine) (e.step self.engine) laws self.register c.take.new.self self.owners self.store x y letters box clocks (seen self.machines.items) at input course tree
    stands up comes register_took in
    record { later = all.0; grows = all.1; told = all.4; logs = all.3; works = all.5; stands = all.2 }

pub returns-in_err-shift-clause-faulted : goal.returns-in_err-shift-clause-faulted
returns-in_err-shift-clause-faulted g c = λ letters clocks course tree tells up steady comes stands fault.
    let e = g.E.Engine in
    let self = c.args.self.now in
    let x = g.R.Rack.state c.args.rack.now in
    let y = g.R.Rack.state c.take.new.rack in
    let z = g.R.Rack.state c.take-3.new.rack in
    let at = c.args.at in
    let known = c.known-known.result.now in
    let input = c.args.input.now in
    let change = c.in_ok-change.change in
    let box = c.args.out.now in
    let heard = c.take.new.out in
    let tended = c.take-2.new.out in
    let still = c.take.ensures.rack.keeps_telling tells in
    let fails = err_back c.from_residual-in_err-shift.result _ c.from_residual-in_err-shift.ensures.1 fault in
    let did = c.in_err-shift.ensures in
    let register_took : RegisterTook g.G.Register self.register c.take.new.self x y at input box heard = record {
      keeps = λ past keeps may. c.in_ok-take.ensures.keeps past tells keeps may;
      rises = c.take.ensures.rises;
      others = c.take.ensures.knows;
      sent = c.in_ok-take.ensures.sent;
      sizes = c.take.ensures.rack.sizes;
      members = (c.take.ensures.members tells).0;
      labels = (c.take.ensures.members tells).1;
    } in
    let owners_took : OwnersTook g.O.Owners self.owners c.take-2.new.self known at input change heard tended = record {
      keeps = c.in_ok-change.ensures.keeps;
      session = c.in_ok-change.ensures.session;
      others = c.in_ok-change.ensures.others;
      kind = c.in_ok-change.ensures.kind;
      sent = c.in_ok-change.ensures.sent;
    } in
    let store_took : StoreTook g.S.Store self.store c.take-3.new.self y z known at input None tended tended = record {
      keeps = λ past keeps may. did.keeps_faulted past still keeps may fails;
      goes_on = λ past keeps may. did.goes_on_faulted past still keeps may fails;
      done = λ past node write keeps may is none own live. did.done_faulted past node write still keeps may is none own live fails;
      session = λ past node keeps may same. did.session_faulted past node still keeps may same fails;
      others = did.others;
      new_session = λ node. did.new_session_faulted node fails;
      out = λ node. did.out_faulted node fails;
      asked = λ node. did.asked_faulted node fails;
      kind = tt;
      sent = record { kept = λ letter there. there; each = λ letter there. inl there };
      made = did.made;
      sizes = c.take-3.ensures.rack.sizes;
      replicas = (c.take-3.ensures.replicas still).0;
      labels = (c.take-3.ensures.replicas still).1;
    } in
    let laws : HandedLaws g.G.Register g.O.Owners g.S.Store = record {
      allowed = g.met.G.Register.allowed;
      legal = g.met.G.Register.legal;
      places = g.met.G.Register.places;
      registers_elsewhere = g.met.G.Register.elsewhere;
      registers_lose = g.met.G.Register.loses;
      lives = g.met.O.Owners.lives;
      apart = λ one past keeps. record { each = λ session other block hold other_hold has has_other ne is is_other. g.met.O.Owners.apart one past session other block hold other_hold keeps has has_other ne is is_other };
      alone = g.met.O.Owners.alone;
      owners_grow = g.met.O.Owners.grows;
      owners_lose = g.met.O.Owners.loses;
      own_out = g.met.S.Store.own_out;
      stores_grow = g.met.S.Store.grows;
      stores_elsewhere = g.met.S.Store.elsewhere;
      stores_lose = g.met.S.Store.loses;
    } in
    let all = store_faulted g.G.Register g.O.Owners g.S.Store (e.stands self.engine) (e.step self.engine) laws self.register c.take.new.self self.owners self.store x y letters box clocks (seen self.machines.items) at input course tree
    stands up comes c.take-2.new.self c.take-3.new.self z heard tended change steady register_took
    (subst (λ (s : GlobalState). OwnersTook g.O.Owners self.owners c.take-2.new.self s at input change heard tended) c.known-known.ensures.knows owners_took)
    (subst (λ (s : GlobalState). StoreTook g.S.Store self.store c.take-3.new.self y z s at input None tended tended) c.known-known.ensures.knows store_took) in
    record {
      later = all.0;
      grows = all.1;
      told = all.4;
      logs = all.3;
      works = all.5;
      stands = but_for g.G.Register g.O.Owners g.S.Store (e.stands self.engine) (e.step self.engine) c.take.new.self c.take-2.new.self c.take-3.new.self z at (letters ++ box) (with_reading clocks input) (seen self.machines.items) all.0 tree all.2;
    }

pub returns-clause-ready : goal.returns-clause-ready
returns-clause-ready g c = λ node ready. ok_so _ c.offer.result
    (let parts = c.offer.ensures.parts in
    let did = c.in_ok-shift.ensures in
    ready_handed g.S.Store g.E.Engine c.args.self.now c.offer.new.self node parts.3 parts.2 (ap (λ s. g.S.Store.made s) parts.1 ∙ did.made)
    (λ differ. ap (λ s. g.S.Store.asked s node) parts.1 ∙ did.new_session node (λ same. differ (ap (λ s. g.S.Store.own s node) parts.1 ∙ same)))
    (⊎_elim (λ differ. inl (λ same. differ (sym (ap (λ s. g.S.Store.own s node) parts.1) ∙ same))) (λ same. inr (ap (λ s. g.S.Store.asked s node) parts.1 ∙ same)) (did.asked node)) ready)

pub returns-clause-ready_faulted : goal.returns-clause-ready_faulted
returns-clause-ready_faulted g c = λ node ready fault. absurd (c.offer.ensures.no_fault fault)

pub returns-in_err-shift-clause-ready_faulted : goal.returns-in_err-shift-clause-ready_faulted
returns-in_err-shift-clause-ready_faulted g c = λ node ready fault.
    let fails = err_back c.from_residual-in_err-shift.result _ c.from_residual-in_err-shift.ensures.1 fault in
    let did = c.in_err-shift.ensures in
    ready_handed g.S.Store g.E.Engine c.args.self.now (record c.args.self.now { register = c.take.new.self; owners = c.take-2.new.self; store = c.take-3.new.self }) node refl refl did.made (did.new_session_faulted node fails) (did.asked_faulted node fails) ready

pub returns-in_err-take-clause-any_moment : goal.returns-in_err-take-clause-any_moment
returns-in_err-take-clause-any_moment g c = λ letters clocks course tree tells up steady comes stands.
    let e = g.E.Engine in
    let self = c.args.self.now in
    let x = g.R.Rack.state c.args.rack.now in
    let y = g.R.Rack.state c.take.new.rack in
    let at = c.args.at in
    let input = c.args.input.now in
    let box = c.args.out.now in
    let laws : HandedLaws g.G.Register g.O.Owners g.S.Store = record {
      allowed = g.met.G.Register.allowed;
      legal = g.met.G.Register.legal;
      places = g.met.G.Register.places;
      registers_elsewhere = g.met.G.Register.elsewhere;
      registers_lose = g.met.G.Register.loses;
      lives = g.met.O.Owners.lives;
      apart = λ one past keeps. record { each = λ session other block hold other_hold has has_other ne is is_other. g.met.O.Owners.apart one past session other block hold other_hold keeps has has_other ne is is_other };
      alone = g.met.O.Owners.alone;
      owners_grow = g.met.O.Owners.grows;
      owners_lose = g.met.O.Owners.loses;
      own_out = g.met.S.Store.own_out;
      stores_grow = g.met.S.Store.grows;
      stores_elsewhere = g.met.S.Store.elsewhere;
      stores_lose = g.met.S.Store.loses;
    } in
    let moments : MomentLaws g.G.Register g.S.Store = record {
      reads_next = g.met.G.Register.reads_next;
      settles = g.met.S.Store.settles;
      settled_is = g.met.S.Store.settled_is;
      labelled = g.met.S.Store.labelled;
    } in
    register_takes g.G.Register g.O.Owners g.S.Store (e.stands self.engine) (e.step self.engine) laws moments self.register self.owners self.store x y letters box clocks (seen self.machines.items) at course tree stands input up comes
    (g.R.Rack.moment c.args.rack.now) (g.R.Rack.moment c.take.new.rack) (g.R.Rack.left_since c.args.rack.now) (g.R.Rack.left_since c.take.new.rack) (λ one keeps may. c.take.ensures.any_moment one tells keeps may)

pub returns-in_err-change-clause-any_moment : goal.returns-in_err-change-clause-any_moment
returns-in_err-change-clause-any_moment g c = λ letters clocks course tree tells up steady comes stands.
    let e = g.E.Engine in
    let self = c.args.self.now in
    let x = g.R.Rack.state c.args.rack.now in
    let y = g.R.Rack.state c.take.new.rack in
    let at = c.args.at in
    let input = c.args.input.now in
    let box = c.args.out.now in
    let laws : HandedLaws g.G.Register g.O.Owners g.S.Store = record {
      allowed = g.met.G.Register.allowed;
      legal = g.met.G.Register.legal;
      places = g.met.G.Register.places;
      registers_elsewhere = g.met.G.Register.elsewhere;
      registers_lose = g.met.G.Register.loses;
      lives = g.met.O.Owners.lives;
      apart = λ one past keeps. record { each = λ session other block hold other_hold has has_other ne is is_other. g.met.O.Owners.apart one past session other block hold other_hold keeps has has_other ne is is_other };
      alone = g.met.O.Owners.alone;
      owners_grow = g.met.O.Owners.grows;
      owners_lose = g.met.O.Owners.loses;
      own_out = g.met.S.Store.own_out;
      stores_grow = g.met.S.Store.grows;
      stores_elsewhere = g.met.S.Store.elsewhere;
      stores_lose = g.met.S.Store.loses;
    } in
    let moments : MomentLaws g.G.Register g.S.Store = record {
      reads_next = g.met.G.Register.reads_next;
      settles = g.met.S.Store.settles;
      settled_is = g.met.S.Store.settled_is;
      labelled = g.met.S.Store.labelled;
    } in
    register_takes g.G.Register g.O.Owners g.S.Store (e.stands self.engine) (e.step self.engine) laws moments self.register self.owners self.store x y letters box clocks (seen self.machines.items) at course tree stands input up comes
    (g.R.Rack.moment c.args.rack.now) (g.R.Rack.moment c.take.new.rack) (g.R.Rack.left_since c.args.rack.now) (g.R.Rack.left_since c.take.new.rack) (λ one keeps may. c.take.ensures.any_moment one tells keeps may)

pub returns-in_err-shift-clause-any_moment : goal.returns-in_err-shift-clause-any_moment
returns-in_err-shift-clause-any_moment g c = λ letters clocks course tree tells up steady comes stands.
    let e = g.E.Engine in
    let self = c.args.self.now in
    let x = g.R.Rack.state c.args.rack.now in
    let y = g.R.Rack.state c.take.new.rack in
    let at = c.args.at in
    let input = c.args.input.now in
    let box = c.args.out.now in
    let heard = c.take.new.out in
    let tended = c.take-2.new.out in
    let still = c.take.ensures.rack.keeps_telling tells in
    let laws : HandedLaws g.G.Register g.O.Owners g.S.Store = record {
      allowed = g.met.G.Register.allowed;
      legal = g.met.G.Register.legal;
      places = g.met.G.Register.places;
      registers_elsewhere = g.met.G.Register.elsewhere;
      registers_lose = g.met.G.Register.loses;
      lives = g.met.O.Owners.lives;
      apart = λ one past keeps. record { each = λ session other block hold other_hold has has_other ne is is_other. g.met.O.Owners.apart one past session other block hold other_hold keeps has has_other ne is is_other };
      alone = g.met.O.Owners.alone;
      owners_grow = g.met.O.Owners.grows;
      owners_lose = g.met.O.Owners.loses;
      own_out = g.met.S.Store.own_out;
      stores_grow = g.met.S.Store.grows;
      stores_elsewhere = g.met.S.Store.elsewhere;
      stores_lose = g.met.S.Store.loses;
    } in
    let moments : MomentLaws g.G.Register g.S.Store = record {
      reads_next = g.met.G.Register.reads_next;
      settles = g.met.S.Store.settles;
      settled_is = g.met.S.Store.settled_is;
      labelled = g.met.S.Store.labelled;
    } in
    let register_took : RegisterTook g.G.Register self.register c.take.new.self x y at input box heard = record {
      keeps = λ past keeps may. c.in_ok-take.ensures.keeps past tells keeps may;
      rises = c.take.ensures.rises;
      others = c.take.ensures.knows;
      sent = c.in_ok-take.ensures.sent;
      sizes = c.take.ensures.rack.sizes;
      members = (c.take.ensures.members tells).0;
      labels = (c.take.ensures.members tells).1;
    } in
    let shown = MayShow (g.G.Register.reads_as (g.G.Register.made self.register) x.sizes) (g.S.Store.made self.store) x.sizes course in
    leaves_then (g.R.Rack.moment c.args.rack.now) (g.R.Rack.moment c.take.new.rack) (g.R.Rack.moment c.take-3.new.rack) (g.R.Rack.left_since c.args.rack.now) (g.R.Rack.left_since c.take.new.rack) (g.R.Rack.left_since c.take-3.new.rack) shown shown
    (register_takes g.G.Register g.O.Owners g.S.Store (e.stands self.engine) (e.step self.engine) laws moments self.register self.owners self.store x y letters box clocks (seen self.machines.items) at course tree stands input up comes
    (g.R.Rack.moment c.args.rack.now) (g.R.Rack.moment c.take.new.rack) (g.R.Rack.left_since c.args.rack.now) (g.R.Rack.left_since c.take.new.rack) (λ one keeps may. c.take.ensures.any_moment one tells keeps may))
    (store_takes g.G.Register g.O.Owners g.S.Store (e.stands self.engine) (e.step self.engine) laws moments self.register self.owners self.store x y letters box clocks (seen self.machines.items) at course tree stands input up comes
    (g.R.Rack.moment c.take.new.rack) (g.R.Rack.moment c.take-3.new.rack) (g.R.Rack.left_since c.take.new.rack) (g.R.Rack.left_since c.take-3.new.rack) c.take.new.self heard tended steady register_took c.take.ensures.made.0 c.in_ok-change.ensures.sent
    (λ d s unsure. g.met.R.Rack.there c.take.new.rack d s still unsure)
    (λ one keeps may. c.take-3.ensures.any_moment one still keeps (subst (λ (s : GlobalState). MayTake (store_with one tended).told s at input) (sym c.known-known.ensures.knows) may)))
    (λ image is. is)

pub returns-clause-any_moment : goal.returns-clause-any_moment
returns-clause-any_moment g c = λ letters clocks course tree tells up steady comes stands.
    let e = g.E.Engine in
    let self = c.args.self.now in
    let x = g.R.Rack.state c.args.rack.now in
    let y = g.R.Rack.state c.take.new.rack in
    let at = c.args.at in
    let input = c.args.input.now in
    let box = c.args.out.now in
    let heard = c.take.new.out in
    let tended = c.take-2.new.out in
    let still = c.take.ensures.rack.keeps_telling tells in
    let laws : HandedLaws g.G.Register g.O.Owners g.S.Store = record {
      allowed = g.met.G.Register.allowed;
      legal = g.met.G.Register.legal;
      places = g.met.G.Register.places;
      registers_elsewhere = g.met.G.Register.elsewhere;
      registers_lose = g.met.G.Register.loses;
      lives = g.met.O.Owners.lives;
      apart = λ one past keeps. record { each = λ session other block hold other_hold has has_other ne is is_other. g.met.O.Owners.apart one past session other block hold other_hold keeps has has_other ne is is_other };
      alone = g.met.O.Owners.alone;
      owners_grow = g.met.O.Owners.grows;
      owners_lose = g.met.O.Owners.loses;
      own_out = g.met.S.Store.own_out;
      stores_grow = g.met.S.Store.grows;
      stores_elsewhere = g.met.S.Store.elsewhere;
      stores_lose = g.met.S.Store.loses;
    } in
    let moments : MomentLaws g.G.Register g.S.Store = record {
      reads_next = g.met.G.Register.reads_next;
      settles = g.met.S.Store.settles;
      settled_is = g.met.S.Store.settled_is;
      labelled = g.met.S.Store.labelled;
    } in
    let register_took : RegisterTook g.G.Register self.register c.take.new.self x y at input box heard = record {
      keeps = λ past keeps may. c.in_ok-take.ensures.keeps past tells keeps may;
      rises = c.take.ensures.rises;
      others = c.take.ensures.knows;
      sent = c.in_ok-take.ensures.sent;
      sizes = c.take.ensures.rack.sizes;
      members = (c.take.ensures.members tells).0;
      labels = (c.take.ensures.members tells).1;
    } in
    let shown = MayShow (g.G.Register.reads_as (g.G.Register.made self.register) x.sizes) (g.S.Store.made self.store) x.sizes course in
    leaves_then (g.R.Rack.moment c.args.rack.now) (g.R.Rack.moment c.take.new.rack) (g.R.Rack.moment c.take-3.new.rack) (g.R.Rack.left_since c.args.rack.now) (g.R.Rack.left_since c.take.new.rack) (g.R.Rack.left_since c.take-3.new.rack) shown shown
    (register_takes g.G.Register g.O.Owners g.S.Store (e.stands self.engine) (e.step self.engine) laws moments self.register self.owners self.store x y letters box clocks (seen self.machines.items) at course tree stands input up comes
    (g.R.Rack.moment c.args.rack.now) (g.R.Rack.moment c.take.new.rack) (g.R.Rack.left_since c.args.rack.now) (g.R.Rack.left_since c.take.new.rack) (λ one keeps may. c.take.ensures.any_moment one tells keeps may))
    (store_takes g.G.Register g.O.Owners g.S.Store (e.stands self.engine) (e.step self.engine) laws moments self.register self.owners self.store x y letters box clocks (seen self.machines.items) at course tree stands input up comes
    (g.R.Rack.moment c.take.new.rack) (g.R.Rack.moment c.take-3.new.rack) (g.R.Rack.left_since c.take.new.rack) (g.R.Rack.left_since c.take-3.new.rack) c.take.new.self heard tended steady register_took c.take.ensures.made.0 c.in_ok-change.ensures.sent
    (λ d s unsure. g.met.R.Rack.there c.take.new.rack d s still unsure)
    (λ one keeps may. c.take-3.ensures.any_moment one still keeps (subst (λ (s : GlobalState). MayTake (store_with one tended).told s at input) (sym c.known-known.ensures.knows) may)))
    (λ image is. is)
