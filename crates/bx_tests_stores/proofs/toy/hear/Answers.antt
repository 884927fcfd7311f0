use Rattle.std.proofs.Common.{◌≡◌, inl, inr, ⊎_elim, ◌≤◌, ℕ, List, ◌++◌, refl, sym, ◌∙◌, ap, subst, arith}
use Rattle.std.specs.Option.{option_or}
use Rattle.std.specs.Prelude.{slice_index}
use Rattle.bx_global.specs.declared.state.GlobalState.{GlobalState}
use Rattle.bx_facts.specs.Chains.{Chain, IsPlace, with_change}
use Rattle.bx_facts.specs.Inputs.{IsOwners, IsRegisters, IsStores, greatest_with}
use Rattle.bx_facts.specs.Machines.{put_at}
use Rattle.bx_facts.specs.Pasts.{MayTake}
use Rattle.bx_facts.specs.Writes.{store_with}
use Rattle.bx_facts.proofs.Following.{follows, none_new, not_both, still_comes}
use Rattle.bx_tests_stores.specs.Together.{Past, Stays, of_owners, of_register, of_store, with_letters}
use Rattle.bx_tests_stores.proofs.Promises.{both, later_reading, since, still_out}
use Rattle.bx_tests_stores.proofs.Together.{among_both, as_asked, goes_along, knew_rises, not_owners, not_registers, owners_more, stores_more}
use Rattle.bx_tests_stores.proofs.toy.hear.Goals as goal

pub returns-clause-keeps : goal.returns-clause-keeps
returns-clause-keeps g c = λ past tells all may.
    let old = c.args.out.now in
    let first = c.take.new.out in
    let second = c.take-2.new.out in
    let third = c.take-3.new.out in
    let out = c.propose.new.out in
    let x = g.R.Rack.state c.args.rack.now in
    let y = g.R.Rack.state c.take.new.rack in
    let z = g.R.Rack.state c.take-3.new.rack in
    let st = c.args.store.now in
    let known = c.known-known.result.now in
    let input = c.args.input.now in
    let by_owners = c.in_ok-by_owners.by_owners in
    let by_store = c.in_ok-by_store.by_store in
    let heard = c.in_ok-take.ensures.keeps (of_register past) tells all.register (record { up = may.up; comes = still_comes past.letters old input may.comes }) in
    let followed = follows (g.O.Owners.keeps c.args.owners.now) (of_owners (with_letters past old)) past.proposed past.chain heard.chain
    (λ change fits legal own. g.met.O.Owners.grows c.args.owners.now _ change fits legal own) all.owners_own refl heard.grows all.owners in
    let decided : Past = record past { chain = heard.chain; floor = followed.floor } in
    let registers = c.in_ok-take.ensures.sent in
    let owners = c.in_ok-by_owners.ensures.sent in
    let stores = c.in_ok-by_store.ensures.sent in
    let P : GlobalState → Type 0 = λ s. IsPlace heard.chain s in
    let place = subst P (sym c.known-known.ensures.knows) (g.met.G.Register.places c.take.new.self y _ c.args.at heard.holds) in
    let index = ap (λ (s : GlobalState). s.index) c.known-known.ensures.knows in
    let rises : past.knew c.args.at ≤ known.index = (let before = all.knew c.args.at in let step = c.take.ensures.rises c.args.at in omega (arith, before, step, index)) in
    let boots = followed.boots (past.boots c.args.at) may.own_boot in
    let to_owners = g.met.O.Owners.loses c.args.owners.now _ (past.letters ++ first) followed.fits (none_new IsOwners IsRegisters not_both past.letters old first registers) in
    let taken = c.in_ok-by_owners.ensures.keeps (of_owners decided) to_owners (record { up = may.up; place = place; rises = rises; own_boot = boots; steady = may.steady; comes = still_comes past.letters first input may.comes }) in
    let same = g.met.S.Store.elsewhere st x y (of_store (with_letters past old)) all.store (record { each = λ d past. ap (λ (l : List ℕ). slice_index l d) c.take.ensures.rack.sizes }) (c.take.ensures.members tells).0 in
    let Fits : Chain → Type 0 = λ chain. g.S.Store.keeps st y (of_store (with_letters (record past { chain = chain }) old))
    × Stays (g.S.Store.asked st) (g.S.Store.settled st) (g.S.Store.settled st) (g.S.Store.will_read st) (g.S.Store.will_read st) (g.S.Store.stands st) (g.S.Store.stands st) x (with_letters past old) y (with_letters (record past { chain = chain }) old) in
    let grown = goes_along Fits past.proposed past.chain heard.chain
    (λ change there legal. let more = g.met.S.Store.grows st y (of_store (with_letters past old)) change same.0 legal (all.store_own change there) in (more.0, both same.1 more.1)) same heard.grows in
    let to_store = g.met.S.Store.loses st y (of_store (with_letters decided old)) (past.letters ++ second) grown.0
    (among_both (none_new IsStores IsOwners (λ letter one other. not_owners letter other one) past.letters first second owners) (none_new IsStores IsRegisters (λ letter one other. not_registers letter other one) past.letters old first registers)) in
    let still_tells = c.take.ensures.rack.keeps_telling tells in
    let may_store : MayTake (store_with (of_store decided) second).told known c.args.at input = record { up = may.up; place = place; rises = rises; own_boot = boots; steady = may.steady; comes = still_comes past.letters second input may.comes } in
    let kept = c.in_ok-by_store.ensures.keeps (of_store decided) still_tells to_store.0 may_store in
    let goes = c.in_ok-by_store.ensures.goes_on (of_store decided) still_tells to_store.0 may_store in
    let register = g.met.G.Register.elsewhere c.take.new.self y z _
    (g.met.G.Register.loses c.take.new.self y _ (past.letters ++ third) heard.holds
    (among_both (none_new IsRegisters IsStores not_registers past.letters second third stores) (none_new IsRegisters IsOwners (λ letter one other. not_both letter other one) past.letters first second owners)))
    (record { each = λ d low. ap (λ (l : List ℕ). slice_index l d) c.take-3.ensures.rack.sizes }) (c.take-3.ensures.replicas still_tells).0 (c.take-3.ensures.replicas still_tells).1 in
    let offered = c.in_ok-propose.ensures.keeps z (of_register decided) register may.up in
    let proposes = c.in_ok-propose.ensures.sent z (of_register decided) register in
    let each = as_asked c.or.result (option_or by_owners by_store) past.proposed offered.proposed c.or.ensures offered.each in
    let later : Past = record decided {
      proposed = offered.proposed;
      by_owners = with_change by_owners past.by_owners;
      by_store = with_change by_store past.by_store;
      greatest = greatest_with past.greatest input;
      knew = put_at c.args.at known.index past.knew;
      holding = taken.holding;
    } in
    let done = g.met.S.Store.loses c.take-3.new.self z (of_store (with_letters later third)) (past.letters ++ out) kept (none_new IsStores IsRegisters (λ letter one other. not_registers letter other one) past.letters third out proposes) in
    let held = g.met.O.Owners.loses c.take-2.new.self _ (past.letters ++ out) taken.stands
    (among_both (none_new IsOwners IsRegisters not_both past.letters third out proposes) (none_new IsOwners IsStores not_owners past.letters second third stores)) in
    let last_index : known.index ≡ (g.G.Register.knows c.propose.new.register c.args.at).index = index ∙ sym (ap (λ (s : GlobalState). s.index) (c.propose.ensures.knows c.args.at)) in
    record {
      past = later;
      fits = record {
        register = offered.fits;
        owners = held;
        store = done.0;
        owners_own = owners_more by_owners by_store past.by_owners past.proposed offered.proposed c.in_ok-by_store.ensures.kind all.owners_own each;
        store_own = stores_more by_owners by_store past.by_store past.proposed offered.proposed c.in_ok-by_owners.ensures.kind all.store_own each;
        knew = knew_rises c.args.at known.index past.knew (g.G.Register.knows c.args.register.now) (g.G.Register.knows c.propose.new.register) last_index all.knew
            (λ who. subst (λ (s : GlobalState). (g.G.Register.knows c.args.register.now who).index ≤ s.index) (sym (c.propose.ensures.knows who)) (c.take.ensures.rises who));
      };
      follows = record { grows = heard.grows; holds = taken.may; letters = refl; boots = refl; down = refl; greatest = refl; knew = ap (λ (n : ℕ). put_at c.args.at n past.knew) last_index; leases = refl; writes = refl };
      goes_on = both (still_out (λ reader. ⊎_elim (λ other. inl (c.in_ok-by_store.ensures.new_session reader other)) (λ same. inr same) (c.in_ok-by_store.ensures.asked reader)) (both (both grown.1 to_store.1) goes)) (since (later_reading past.greatest input) done.1);
    }
