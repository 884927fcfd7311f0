use Rattle.std.proofs.Common.{◌≡◌, ◌∙◌, ℕ, ◌<◌, ◌++◌, [], List, Option, Some, None, IfSome, IsSome, refl, sym, ap, subst, arith}
use Rattle.std.specs.Prelude.{OnOk, slice_get, slice_set}
use Rattle.std.specs.List.{AllByRecursion}
use Rattle.std.specs.Vec.{with_item}
use Rattle.std.proofs.Math.Nat.{mod-lt}
use Rattle.std.proofs.lemmas.Option.{slice_get-get_or}
use Rattle.std.proofs.lemmas.Result.{on_ok_weaker}
use Rattle.bx_base.specs.declared.names.Mode.{Mode}
use Rattle.bx_facts.specs.Writes.{Sent}
use Rattle.bx_node_cache.specs.Kept.{held_in, hint_in}
use Rattle.bx_node_machines.proofs.Showing.{sees_truth}
use Rattle.bx_node_steps.specs.Ready.{IsReady}
use Rattle.bx_node_steps.specs.Seen.{seen, view_of}
use Rattle.bx_node_steps.specs.Tidying.{Ends, IsToClean, area_of, tidying}
use Rattle.bx_node_steps.specs.declared.machine.Machine.{Machine}
use Rattle.bx_node_steps.specs.declared.machine.Stage.TheVariants.{Idle}
use Rattle.bx_node_steps.specs.declared.machine.Tidy.{Tidy}
use Rattle.bx_node_steps.specs.declared.recording.Recording.{Recording}
use Rattle.bx_nodes.specs.Asks.{KeepsUnwanted, OnlyHolds}
use Rattle.bx_nodes.specs.Cleaning.{IsHeldUp}
use Rattle.bx_nodes.specs.Sending.{SendsBody, WorksOver}
use Rattle.bx_nodes.specs.Standing.{Asking, Stand}
use Rattle.bx_nodes.specs.Turns.{Waits}
use Rattle.bx_nodes.proofs.Calling.{AnswersWell}
use Rattle.bx_nodes.proofs.Cleaning.{Cleans, cleans_end, cleans_rest, rest_goes, resting, sent_answers, sent_waits, tidy_works, unseen_answers, wanted_waits}
use Rattle.bx_nodes.proofs.HoldingUp.{held_by_none, held_by_rest, held_by_wants, held_by_write, some_out}
use Rattle.bx_nodes.proofs.Leading.{later_turned, turned_none}
use Rattle.bx_nodes.proofs.Machines.{both_ok, both_there, each_ok, if_and, if_both, if_later, if_new, if_then, if_two, is_some_there, of_there, on_each, seen_same, seen_there, set_here, set_there, there_is, was_there}
use Rattle.bx_nodes.proofs.Noting.{able_as, stands_noted, waits_noted}
use Rattle.bx_nodes.proofs.Tidying.{GoesBy, LeavesTidy, tidy_held, tidy_same, tidy_stays}
use Rattle.bx_nodes.proofs.Turning.{one_needs, some_sent}
use Rattle.bx_places.specs.Places.{IsBlock}
use Rattle.bx_views.specs.Attempts.{IsFair, IsFairNeed, IsHeldDraft, Tidies}
use Rattle.bx_views.specs.Truths.{IsTruth}
use Rattle.bx_views.specs.declared.attempt.Attempt.{Attempt}
use Rattle.bx_nodes.proofs.nodes.Nodes.tidy.Goals as goal

-- ---- it rests

pub returns-then-is_some-clause-stands : goal.returns-then-is_some-clause-stands
returns-then-is_some-clause-stands g c = λ x letters clocks course tree session up stands own ends live mine.
    let self = c.args.self.now in
    let items = self.machines.items in
    let node = c.args.node in
    let before = c.index_mut.result.now in
    let after : Machine = c.rest.new.self in
    let tidy : Option Tidy = resting before.tidy in
    let only : after ≡ record before { tidy = tidy } = c.rest.ensures in
    let was : slice_get items node ≡ Some before = slice_get-get_or items node before c.requires.there.0 ∙ ap (λ (m : Machine). Some m) (sym c.index_mut.ensures.value) in
    let is : slice_get (slice_set items node after) node ≡ Some (record before { tidy = tidy }) = set_here items node after before was ∙ ap (λ (m : Machine). Some m) only in
    let e = g.E.Engine in
    let new = (record self { machines = with_item self.machines node after }) in
    turned_none (e.step self.engine) (Stand g.G.Register g.O.Owners g.S.Store e new x (letters ++ c.args.out.now) clocks) course tree
    (stands_noted g.G.Register g.O.Owners g.S.Store e self new (refl, refl, refl, refl) x (letters ++ c.args.out.now) clocks course tree (seen_same items node before after was (ap view_of only)) stands)

pub returns-then-is_some-clause-waits : goal.returns-then-is_some-clause-waits
returns-then-is_some-clause-waits g c = λ said owners first same waits.
    let self = c.args.self.now in
    let items = self.machines.items in
    let node = c.args.node in
    let before = c.index_mut.result.now in
    let after : Machine = c.rest.new.self in
    let tidy : Option Tidy = resting before.tidy in
    let only : after ≡ record before { tidy = tidy } = c.rest.ensures in
    let was : slice_get items node ≡ Some before = slice_get-get_or items node before c.requires.there.0 ∙ ap (λ (m : Machine). Some m) (sym c.index_mut.ensures.value) in
    let is : slice_get (slice_set items node after) node ≡ Some (record before { tidy = tidy }) = set_here items node after before was ∙ ap (λ (m : Machine). Some m) only in
    waits_noted g.G.Register g.O.Owners g.S.Store g.E.Engine self (record self { machines = with_item self.machines node after }) (refl, refl, refl, refl) node before before.mark before.ticks tidy was is c.args.moment c.args.lease.session said owners first waits

pub returns-then-is_some-clause-answers : goal.returns-then-is_some-clause-answers
returns-then-is_some-clause-answers g c =
    let self = c.args.self.now in
    let items = self.machines.items in
    let node = c.args.node in
    let before = c.index_mut.result.now in
    let after : Machine = c.rest.new.self in
    let tidy : Option Tidy = resting before.tidy in
    let only : after ≡ record before { tidy = tidy } = c.rest.ensures in
    let was : slice_get items node ≡ Some before = slice_get-get_or items node before c.requires.there.0 ∙ ap (λ (m : Machine). Some m) (sym c.index_mut.ensures.value) in
    let is : slice_get (slice_set items node after) node ≡ Some (record before { tidy = tidy }) = set_here items node after before was ∙ ap (λ (m : Machine). Some m) only in
    let ready = of_there (IsReady (g.S.Store.made self.store) (g.E.Engine.areas self.engine) (g.S.Store.asked self.store node)) (slice_get items node) before was c.requires.ready in
    both_there (AnswersWell c.args.moment []) (slice_get items node) (slice_get (slice_set items node after) node) before (record before { tidy = tidy }) was is
    (unseen_answers c.args.moment before.cache.areas before before.ticks tidy ready.fits)

pub returns-then-is_some-clause-goes : goal.returns-then-is_some-clause-goes
returns-then-is_some-clause-goes g c =
    let self = c.args.self.now in
    let items = self.machines.items in
    let node = c.args.node in
    let before = c.index_mut.result.now in
    let after : Machine = c.rest.new.self in
    let tidy : Option Tidy = resting before.tidy in
    let only : after ≡ record before { tidy = tidy } = c.rest.ensures in
    let was : slice_get items node ≡ Some before = slice_get-get_or items node before c.requires.there.0 ∙ ap (λ (m : Machine). Some m) (sym c.index_mut.ensures.value) in
    let is : slice_get (slice_set items node after) node ≡ Some (record before { tidy = tidy }) = set_here items node after before was ∙ ap (λ (m : Machine). Some m) only in
    let one = c.index.result.now in
    let was_one : slice_get items node ≡ Some one = slice_get-get_or items node one c.requires.there.0 ∙ ap (λ (m : Machine). Some m) (sym c.index.ensures) in
    let two = c.index-2.result.now in
    let was_two : slice_get items node ≡ Some two = slice_get-get_or items node two c.requires.there.0 ∙ ap (λ (m : Machine). Some m) (sym c.index-2.ensures) in
    let cleaning = of_there (λ (m : Machine). IsToClean m c.in-Some.area) (slice_get items node) before was (was_there (λ (m : Machine). IsToClean m c.in-Some.area) (slice_get items node) one was_one c.in-Some.ensures.some) in
    let asked = of_there (λ (m : Machine). IsSome m.mark) (slice_get items node) before was (was_there (λ (m : Machine). IsSome m.mark) (slice_get items node) two was_two (sym c.is_some.ensures ∙ c.if-is_some.true)) in
    both_there GoesBy (slice_get items node) (slice_get (slice_set items node after) node) before (record before { tidy = tidy }) was is
    (rest_goes before c.in-Some.area cleaning asked)

pub returns-then-is_some-clause-cleans : goal.returns-then-is_some-clause-cleans
returns-then-is_some-clause-cleans g c = λ x letters clocks course tree session up stands own live mine.
    let self = c.args.self.now in
    let items = self.machines.items in
    let node = c.args.node in
    let before = c.index_mut.result.now in
    let after : Machine = c.rest.new.self in
    let tidy : Option Tidy = resting before.tidy in
    let only : after ≡ record before { tidy = tidy } = c.rest.ensures in
    let was : slice_get items node ≡ Some before = slice_get-get_or items node before c.requires.there.0 ∙ ap (λ (m : Machine). Some m) (sym c.index_mut.ensures.value) in
    let is : slice_get (slice_set items node after) node ≡ Some (record before { tidy = tidy }) = set_here items node after before was ∙ ap (λ (m : Machine). Some m) only in
    both_there (Cleans (g.E.Engine.is_clean self.engine course.truth) (g.S.Store.made self.store).areas) (slice_get items node) (slice_get (slice_set items node after) node) before (record before { tidy = tidy }) was is
    (cleans_rest (g.E.Engine.is_clean self.engine course.truth) (g.S.Store.made self.store).areas before.tidy)

pub returns-then-is_some-clause-session : goal.returns-then-is_some-clause-session
returns-then-is_some-clause-session g c =
    let self = c.args.self.now in
    let items = self.machines.items in
    let node = c.args.node in
    let before = c.index_mut.result.now in
    let after : Machine = c.rest.new.self in
    let tidy : Option Tidy = resting before.tidy in
    let only : after ≡ record before { tidy = tidy } = c.rest.ensures in
    let was : slice_get items node ≡ Some before = slice_get-get_or items node before c.requires.there.0 ∙ ap (λ (m : Machine). Some m) (sym c.index_mut.ensures.value) in
    let is : slice_get (slice_set items node after) node ≡ Some (record before { tidy = tidy }) = set_here items node after before was ∙ ap (λ (m : Machine). Some m) only in
    both_there (λ a b. b.session ≡ a.session) (slice_get items node) (slice_get (slice_set items node after) node) before (record before { tidy = tidy }) was is refl

pub returns-then-is_some-clause-ready : goal.returns-then-is_some-clause-ready
returns-then-is_some-clause-ready g c =
    let self = c.args.self.now in
    let items = self.machines.items in
    let node = c.args.node in
    let before = c.index_mut.result.now in
    let after : Machine = c.rest.new.self in
    let tidy : Option Tidy = resting before.tidy in
    let only : after ≡ record before { tidy = tidy } = c.rest.ensures in
    let was : slice_get items node ≡ Some before = slice_get-get_or items node before c.requires.there.0 ∙ ap (λ (m : Machine). Some m) (sym c.index_mut.ensures.value) in
    let is : slice_get (slice_set items node after) node ≡ Some (record before { tidy = tidy }) = set_here items node after before was ∙ ap (λ (m : Machine). Some m) only in
    let made = g.S.Store.made self.store in
    let areas = g.E.Engine.areas self.engine in
    let asked = g.S.Store.asked self.store node in
    was_there (IsReady made areas asked) (slice_get (slice_set items node after) node) (record before { tidy = tidy }) is
    (able_as made areas asked before before.mark before.ticks tidy (of_there (IsReady made areas asked) (slice_get items node) before was c.requires.ready))

pub returns-then-is_some-clause-others : goal.returns-then-is_some-clause-others
returns-then-is_some-clause-others g c = record { others = λ other ne. set_there c.args.self.now.machines.items c.args.node other (c.rest.new.self) ne }

-- ---- nothing is to be cleaned now

pub returns-in_default-clause-goes : goal.returns-in_default-clause-goes
returns-in_default-clause-goes g c = tidy_same (slice_get c.args.self.now.machines.items c.args.node)

pub returns-then-not-done-clause-goes : goal.returns-then-not-done-clause-goes
returns-then-not-done-clause-goes g c = tidy_same (slice_get c.args.self.now.machines.items c.args.node)

pub returns-clause-goes : goal.returns-clause-goes
returns-clause-goes g c = tidy_same (slice_get c.args.self.now.machines.items c.args.node)

-- ---- it wants blocks

pub tidy-requires : goal.tidy-requires
tidy-requires g c =
    let self = c.args.self.now in
    let items = self.machines.items in
    let node = c.args.node in
    let two = c.index.result.now in
    let was_two : slice_get items node ≡ Some two = slice_get-get_or items node two c.requires.there.0 ∙ ap (λ (m : Machine). Some m) (sym c.index.ensures) in
    let made = g.S.Store.made self.store in
    let ready = of_there (IsReady made (g.E.Engine.areas self.engine) (g.S.Store.asked self.store node)) (slice_get items node) two was_two c.requires.ready in
    let cleaning = c.in-Some.ensures.some in
    let some = ready.volume.least_areas in
    subst (λ (n : ℕ). c.in-Some.area < n) (sym ready.engine)
    (subst (λ (n : ℕ). n < made.areas) (sym (cleaning.at ∙ ap (λ (n : ℕ). area_of n cleaning.tidy) ready.areas)) (mod-lt cleaning.tidy.tick (omega (arith, some))))

pub ask_each-requires-clause-rests : goal.ask_each-requires-clause-rests
ask_each-requires-clause-rests g c =
    let self = c.args.self.now in
    let items = self.machines.items in
    let node = c.args.node in
    let two = c.index.result.now in
    let was_two : slice_get items node ≡ Some two = slice_get-get_or items node two c.requires.there.0 ∙ ap (λ (m : Machine). Some m) (sym c.index.ensures) in
    was_there (λ (m : Machine). m.stage ≡ Idle) (slice_get items node) two was_two c.in-Some.ensures.some.idle

pub ask_each-requires-clause-blocks : goal.ask_each-requires-clause-blocks
ask_each-requires-clause-blocks g c =
    let self = c.args.self.now in
    let items = self.machines.items in
    let node = c.args.node in
    let two = c.index.result.now in
    let was_two : slice_get items node ≡ Some two = slice_get-get_or items node two c.requires.there.0 ∙ ap (λ (m : Machine). Some m) (sym c.index.ensures) in
    let e = g.E.Engine in
    let made = g.S.Store.made self.store in
    let cache = c.index-3.result.now.cache in
    let ready = of_there (IsReady made (e.areas self.engine) (g.S.Store.asked self.store node)) (slice_get items node) two was_two c.requires.ready in
    let path = e.tidy_path self.engine c.in-Some.area (held_in cache.kept) (hint_in cache.hinted) in
    let fair = subst (λ (a : Attempt). IsFair (e.areas self.engine) (held_in cache.kept) path a) c.in-Need.is c.in_ok-attempt.ensures.fair in
    subst (λ (l : List (ℕ × Mode)). AllByRecursion (λ wanted. IsBlock made.areas wanted.0) l) (sym c.items.ensures)
    (one_needs (e.areas self.engine) made.areas (held_in cache.kept) path c.in-Need.wants ready.engine fair)

pub returns-in-Need-clause-stands : goal.returns-in-Need-clause-stands
returns-in-Need-clause-stands g c = λ x letters clocks course tree session up stands own ends live mine.
    let e = g.E.Engine in
    let new = c.ask_each.new.self in
    on_ok_weaker c.ask_each.result
    (λ later. later_turned (e.step c.args.self.now.engine) (λ some. Stand g.G.Register g.O.Owners g.S.Store e new x (letters ++ c.ask_each.new.out) clocks some tree) (Stand g.G.Register g.O.Owners g.S.Store e new x (letters ++ c.ask_each.new.out) clocks) course tree [] later
    (turned_none (e.step c.args.self.now.engine) (Stand g.G.Register g.O.Owners g.S.Store e new x (letters ++ c.ask_each.new.out) clocks) later.later tree later.stands))
    (c.ask_each.ensures.stands x letters clocks course tree session up stands own live mine)

pub returns-in-Need-clause-waits : goal.returns-in-Need-clause-waits
returns-in-Need-clause-waits g c = λ said owners first same waits.
    let self = c.args.self.now in
    let items = self.machines.items in
    let node = c.args.node in
    let new = c.ask_each.new.self in
    let wants = c.items.result.now in
    let e = g.E.Engine in
    let Asked : ℕ → Type 0 = λ at. Asking g.G.Register g.O.Owners self node at in
    let Asks : ℕ → Type 0 = λ at. Asking g.G.Register g.O.Owners new node at in
    let out = g.S.Store.out_of self.store node in
    let old_is = slice_get items node in
    let new_is = slice_get new.machines.items node in
    let some = is_some_there items node c.requires.there.0 in
    let is_own = there_is items node c.requires.there.0 in
    let one = is_own.0 in
    let was = is_own.1 in
    let two = c.index.result.now in
    let was_two : slice_get items node ≡ Some two = slice_get-get_or items node two c.requires.there.0 ∙ ap (λ (m : Machine). Some m) (sym c.index.ensures) in
    let cleaning = of_there (λ (m : Machine). IsToClean m c.in-Some.area) old_is one was (was_there (λ (m : Machine). IsToClean m c.in-Some.area) old_is two was_two c.in-Some.ensures.some) in
    let ready = of_there (IsReady (g.S.Store.made self.store) (e.areas self.engine) (g.S.Store.asked self.store node)) old_is one was c.requires.ready in
    let area : c.in-Some.area ≡ area_of (e.areas self.engine) cleaning.tidy = cleaning.at ∙ ap (λ (n : ℕ). area_of n cleaning.tidy) (ready.areas ∙ sym ready.engine) in
    let tidy : first.tidy ≡ Some cleaning.tidy = sym (of_there (λ (m : Machine). m.tidy ≡ first.tidy) old_is one was same) ∙ cleaning.is in
    let Fair : List (ℕ × Mode) → Machine → ℕ → Type 0 = λ l m n. IsFairNeed (e.areas self.engine) (held_in m.cache.kept) (e.tidy_path self.engine n (held_in m.cache.kept) (hint_in m.cache.hinted)) l in
    let three = c.index-3.result.now in
    let was_three : slice_get items node ≡ Some three = slice_get-get_or items node three c.requires.there.0 ∙ ap (λ (m : Machine). Some m) (sym c.index-3.ensures) in
    let path = e.tidy_path self.engine c.in-Some.area (held_in three.cache.kept) (hint_in three.cache.hinted) in
    let given_it : Fair wants three c.in-Some.area = subst (λ (l : List (ℕ × Mode)). IsFairNeed (e.areas self.engine) (held_in three.cache.kept) path l) (sym c.items.ensures)
    (subst (λ (a : Attempt). IsFair (e.areas self.engine) (held_in three.cache.kept) path a) c.in-Need.is c.in_ok-attempt.ensures.fair) in
    let fair = subst (λ (n : ℕ). Fair wants one n) area (of_there (λ m. Fair wants m c.in-Some.area) old_is one was (was_there (λ m. Fair wants m c.in-Some.area) old_is three was_three given_it)) in
    let Was = Waits g.O.Owners e self.engine node c.args.moment c.args.lease.session said owners self.owners out Asked first in
    let Then = Waits g.O.Owners e self.engine node c.args.moment c.args.lease.session said owners new.owners out Asks first in
    subst (λ en. OnOk c.ask_each.result (IfSome new_is (Waits g.O.Owners e en node c.args.moment c.args.lease.session said owners new.owners (g.S.Store.out_of new.store node) Asks first))) (sym c.ask_each.ensures.parts.1)
    (subst (λ (o : Option Sent). OnOk c.ask_each.result (IfSome new_is (Waits g.O.Owners e self.engine node c.args.moment c.args.lease.session said owners new.owners o Asks first))) (sym (c.ask_each.ensures.own node).3)
    (on_ok_weaker c.ask_each.result
    (λ all. if_then old_is new_is (λ m. (m ≡ one) × Was m) (λ a b. OnlyHolds a b × KeepsUnwanted wants a b) Then some
    (λ a b held both. wanted_waits g.O.Owners e self.engine node c.args.moment c.args.lease.session said owners self.owners new.owners out Asked Asks all.1.1.1 first wants a b cleaning.tidy tidy both.0 both.1
    (subst (λ (m : Machine). Fair wants m (area_of (e.areas self.engine) cleaning.tidy)) (sym held.0) fair) all.1.0 all.1.1.0 held.1)
    (was_there (λ m. (m ≡ one) × Was m) old_is one was (refl, of_there Was old_is one was waits))
    (if_and old_is new_is OnlyHolds (KeepsUnwanted wants) all.0.0 all.0.1))
    (both_ok _ _ c.ask_each.result (both_ok _ _ c.ask_each.result c.ask_each.ensures.only c.ask_each.ensures.keeps)
    (both_ok _ _ c.ask_each.result c.ask_each.ensures.owners
    (both_ok _ _ c.ask_each.result c.ask_each.ensures.asking (each_ok (λ at. Asked at → Asks at) c.ask_each.result (λ at. on_each (Asked at) (Asks at) c.ask_each.result (λ asked. c.ask_each.ensures.asks_on at asked))))))))

pub returns-in-Need-clause-goes : goal.returns-in-Need-clause-goes
returns-in-Need-clause-goes g c =
    let old_is = slice_get c.args.self.now.machines.items c.args.node in
    let new_is = slice_get c.ask_each.new.self.machines.items c.args.node in
    on_ok_weaker c.ask_each.result (λ only. tidy_stays old_is new_is (tidy_held old_is new_is only)) c.ask_each.ensures.only

-- ---- its record begins

pub send-requires-clause-idle : goal.send-requires-clause-idle
send-requires-clause-idle g c =
    let self = c.args.self.now in
    let items = self.machines.items in
    let node = c.args.node in
    let two = c.index.result.now in
    let was_two : slice_get items node ≡ Some two = slice_get-get_or items node two c.requires.there.0 ∙ ap (λ (m : Machine). Some m) (sym c.index.ensures) in
    was_there (λ (m : Machine). m.stage ≡ Idle) (slice_get items node) two was_two c.in-Some.ensures.some.idle

pub send-requires-clause-held : goal.send-requires-clause-held
send-requires-clause-held g c =
    let self = c.args.self.now in
    let items = self.machines.items in
    let node = c.args.node in
    let e = g.E.Engine in
    let three = c.index-3.result.now in
    let was_three : slice_get items node ≡ Some three = slice_get-get_or items node three c.requires.there.0 ∙ ap (λ (m : Machine). Some m) (sym c.index-3.ensures) in
    let held = held_in three.cache.kept in
    let path = e.tidy_path self.engine c.in-Some.area held (hint_in three.cache.hinted) in
    let fair = subst (λ (a : Attempt). IsFair (e.areas self.engine) held path a) c.in-Inner.is c.in_ok-attempt.ensures.fair in
    was_there (λ (m : Machine). IsHeldDraft (held_in m.cache.kept) c.tidying.result.pending.draft) (slice_get items node) three was_three
    (subst (λ (r : Recording). IsHeldDraft held r.pending.draft) (sym c.tidying.ensures) fair)

pub returns-in-Inner-clause-stands : goal.returns-in-Inner-clause-stands
returns-in-Inner-clause-stands g c = λ x letters clocks course tree session up stands own ends live mine.
    let self = c.args.self.now in
    let items = self.machines.items in
    let node = c.args.node in
    let e = g.E.Engine in
    let three = c.index-3.result.now in
    let was_three : slice_get items node ≡ Some three = slice_get-get_or items node three c.requires.there.0 ∙ ap (λ (m : Machine). Some m) (sym c.index-3.ensures) in
    c.send.ensures.stands x letters clocks course tree session up stands own ends live mine
    (was_there (WorksOver e self.engine c.tidying.result) (slice_get items node) three was_three
    (subst (λ (r : Recording). WorksOver e self.engine r three) (sym c.tidying.ensures)
    (tidy_works e self.engine c.in-Some.area c.args.moment three c.in-Inner.draft c.in_ok-attempt.attempt c.in-Inner.is (λ truth t holds agrees. c.in_ok-attempt.ensures.gives truth t holds agrees))))

pub returns-in-Inner-clause-waits : goal.returns-in-Inner-clause-waits
returns-in-Inner-clause-waits g c = λ said owners first same waits.
    let self = c.args.self.now in
    let node = c.args.node in
    let new = c.send.new.self in
    let e = g.E.Engine in
    let own = g.S.Store.own self.store node in
    let out = g.S.Store.out_of self.store node in
    let out_then = g.S.Store.out_of new.store node in
    let old_is = slice_get self.machines.items node in
    let new_is = slice_get new.machines.items node in
    let Asked : ℕ → Type 0 = λ at. Asking g.G.Register g.O.Owners self node at in
    let Asks : ℕ → Type 0 = λ at. Asking g.G.Register g.O.Owners new node at in
    let Was = Waits g.O.Owners e self.engine node c.args.moment c.args.lease.session said owners self.owners out Asked first in
    let Then = Waits g.O.Owners e self.engine node c.args.moment c.args.lease.session said owners self.owners out_then Asks first in
    let parts = c.send.ensures.parts in
    on_ok_weaker c.send.result
    (λ sends. subst (λ en. IfSome new_is (Waits g.O.Owners e en node c.args.moment c.args.lease.session said owners new.owners out_then Asks first)) (sym parts.2)
    (subst (λ w. IfSome new_is (Waits g.O.Owners e self.engine node c.args.moment c.args.lease.session said owners w out_then Asks first)) (sym parts.1)
    (if_then old_is new_is Was (SendsBody (tidying c.in-Inner.draft c.args.moment) own c.args.lease.until out_then) Then (is_some_there self.machines.items node c.requires.there.0)
    (λ a b was sent. sent_waits g.O.Owners e self.engine node c.args.moment c.args.lease.session said owners self.owners out out_then Asked Asks first a b (some_sent own c.args.lease.until sent.runs out_then c.requires.sessions.1 sent.sent)
    sent.begins.calls (ap (λ (m : Machine). m.cache) sent.begins.only) was) waits
    (subst (λ (r : Recording). IfSome old_is (λ a. IfSome new_is (SendsBody r own c.args.lease.until out_then a))) c.tidying.ensures sends))))
    c.send.ensures.sends

pub returns-in-Inner-clause-answers : goal.returns-in-Inner-clause-answers
returns-in-Inner-clause-answers g c =
    let self = c.args.self.now in
    let items = self.machines.items in
    let node = c.args.node in
    let two = c.index.result.now in
    let was_two : slice_get items node ≡ Some two = slice_get-get_or items node two c.requires.there.0 ∙ ap (λ (m : Machine). Some m) (sym c.index.ensures) in
    let new = c.send.new.self in
    let own = g.S.Store.own self.store node in
    let out = g.S.Store.out_of new.store node in
    let idle = was_there (λ (m : Machine). m.stage ≡ Idle) (slice_get items node) two was_two c.in-Some.ensures.some.idle in
    on_ok_weaker c.send.result
    (λ sends. if_two (slice_get items node) (slice_get new.machines.items node) (λ m. m.stage ≡ Idle) (SendsBody (tidying c.in-Inner.draft c.args.moment) own c.args.lease.until out) (AnswersWell c.args.moment [])
    (λ a b rests sent. sent_answers c.args.moment c.args.moment c.in-Inner.draft own c.args.lease.until out a b rests sent) idle
    (subst (λ (r : Recording). IfSome (slice_get items node) (λ a. IfSome (slice_get new.machines.items node) (SendsBody r own c.args.lease.until out a))) c.tidying.ensures sends))
    c.send.ensures.sends

pub returns-in-Inner-clause-goes : goal.returns-in-Inner-clause-goes
returns-in-Inner-clause-goes g c =
    let self = c.args.self.now in
    let new = c.send.new.self in
    let old_is = slice_get self.machines.items c.args.node in
    let new_is = slice_get new.machines.items c.args.node in
    on_ok_weaker c.send.result
    (λ sends. tidy_stays old_is new_is (if_both old_is new_is (SendsBody c.tidying.result (g.S.Store.own self.store c.args.node) c.args.lease.until (g.S.Store.out_of new.store c.args.node)) LeavesTidy (λ a b sent. (ap (λ (m : Machine). m.tidy) sent.begins.only, ap (λ (m : Machine). m.mark) sent.begins.only)) sends))
    c.send.ensures.sends

-- ---- it ends

pub returns-in-Answer-clause-stands : goal.returns-in-Answer-clause-stands
returns-in-Answer-clause-stands g c = λ x letters clocks course tree session up stands own ends live mine.
    let self = c.args.self.now in
    let items = self.machines.items in
    let node = c.args.node in
    let before = c.index_mut-in-Answer.result.now in
    let after : Machine = record before { tidy = None } in
    let tidy : Option Tidy = None in
    let only : after ≡ record before { tidy = tidy } = refl in
    let was : slice_get items node ≡ Some before = slice_get-get_or items node before c.requires.there.0 ∙ ap (λ (m : Machine). Some m) (sym c.index_mut-in-Answer.ensures.value) in
    let is : slice_get (slice_set items node after) node ≡ Some (record before { tidy = tidy }) = set_here items node after before was ∙ ap (λ (m : Machine). Some m) only in
    let e = g.E.Engine in
    let new = (record self { machines = with_item self.machines node after }) in
    turned_none (e.step self.engine) (Stand g.G.Register g.O.Owners g.S.Store e new x (letters ++ c.args.out.now) clocks) course tree
    (stands_noted g.G.Register g.O.Owners g.S.Store e self new (refl, refl, refl, refl) x (letters ++ c.args.out.now) clocks course tree (seen_same items node before after was (ap view_of only)) stands)

pub returns-in-Answer-clause-waits : goal.returns-in-Answer-clause-waits
returns-in-Answer-clause-waits g c = λ said owners first same waits.
    let self = c.args.self.now in
    let items = self.machines.items in
    let node = c.args.node in
    let before = c.index_mut-in-Answer.result.now in
    let after : Machine = record before { tidy = None } in
    let tidy : Option Tidy = None in
    let only : after ≡ record before { tidy = tidy } = refl in
    let was : slice_get items node ≡ Some before = slice_get-get_or items node before c.requires.there.0 ∙ ap (λ (m : Machine). Some m) (sym c.index_mut-in-Answer.ensures.value) in
    let is : slice_get (slice_set items node after) node ≡ Some (record before { tidy = tidy }) = set_here items node after before was ∙ ap (λ (m : Machine). Some m) only in
    waits_noted g.G.Register g.O.Owners g.S.Store g.E.Engine self (record self { machines = with_item self.machines node after }) (refl, refl, refl, refl) node before before.mark before.ticks tidy was is c.args.moment c.args.lease.session said owners first waits

pub returns-in-Answer-clause-answers : goal.returns-in-Answer-clause-answers
returns-in-Answer-clause-answers g c =
    let self = c.args.self.now in
    let items = self.machines.items in
    let node = c.args.node in
    let before = c.index_mut-in-Answer.result.now in
    let after : Machine = record before { tidy = None } in
    let tidy : Option Tidy = None in
    let only : after ≡ record before { tidy = tidy } = refl in
    let was : slice_get items node ≡ Some before = slice_get-get_or items node before c.requires.there.0 ∙ ap (λ (m : Machine). Some m) (sym c.index_mut-in-Answer.ensures.value) in
    let is : slice_get (slice_set items node after) node ≡ Some (record before { tidy = tidy }) = set_here items node after before was ∙ ap (λ (m : Machine). Some m) only in
    let ready = of_there (IsReady (g.S.Store.made self.store) (g.E.Engine.areas self.engine) (g.S.Store.asked self.store node)) (slice_get items node) before was c.requires.ready in
    both_there (AnswersWell c.args.moment []) (slice_get items node) (slice_get (slice_set items node after) node) before (record before { tidy = tidy }) was is
    (unseen_answers c.args.moment before.cache.areas before before.ticks tidy ready.fits)

pub returns-in-Answer-clause-goes : goal.returns-in-Answer-clause-goes
returns-in-Answer-clause-goes g c =
    let self = c.args.self.now in
    let items = self.machines.items in
    let node = c.args.node in
    let before = c.index_mut-in-Answer.result.now in
    let after : Machine = record before { tidy = None } in
    let tidy : Option Tidy = None in
    let only : after ≡ record before { tidy = tidy } = refl in
    let was : slice_get items node ≡ Some before = slice_get-get_or items node before c.requires.there.0 ∙ ap (λ (m : Machine). Some m) (sym c.index_mut-in-Answer.ensures.value) in
    let is : slice_get (slice_set items node after) node ≡ Some (record before { tidy = tidy }) = set_here items node after before was ∙ ap (λ (m : Machine). Some m) only in
    let two = c.index.result.now in
    let was_two : slice_get items node ≡ Some two = slice_get-get_or items node two c.requires.there.0 ∙ ap (λ (m : Machine). Some m) (sym c.index.ensures) in
    let cleaning = of_there (λ (m : Machine). IsToClean m c.in-Some.area) (slice_get items node) before was (was_there (λ (m : Machine). IsToClean m c.in-Some.area) (slice_get items node) two was_two c.in-Some.ensures.some) in
    both_there GoesBy (slice_get items node) (slice_get (slice_set items node after) node) before (record before { tidy = tidy }) was is
    (Ends cleaning.tidy cleaning.is refl (λ call waits. cleaning.none_wait call waits))

pub returns-in-Answer-clause-cleans : goal.returns-in-Answer-clause-cleans
returns-in-Answer-clause-cleans g c = λ x letters clocks course tree session up stands own live mine.
    let self = c.args.self.now in
    let items = self.machines.items in
    let node = c.args.node in
    let before = c.index_mut-in-Answer.result.now in
    let after : Machine = record before { tidy = None } in
    let tidy : Option Tidy = None in
    let only : after ≡ record before { tidy = tidy } = refl in
    let was : slice_get items node ≡ Some before = slice_get-get_or items node before c.requires.there.0 ∙ ap (λ (m : Machine). Some m) (sym c.index_mut-in-Answer.ensures.value) in
    let is : slice_get (slice_set items node after) node ≡ Some (record before { tidy = tidy }) = set_here items node after before was ∙ ap (λ (m : Machine). Some m) only in
    let two = c.index.result.now in
    let was_two : slice_get items node ≡ Some two = slice_get-get_or items node two c.requires.there.0 ∙ ap (λ (m : Machine). Some m) (sym c.index.ensures) in
    let cleaning = of_there (λ (m : Machine). IsToClean m c.in-Some.area) (slice_get items node) before was (was_there (λ (m : Machine). IsToClean m c.in-Some.area) (slice_get items node) two was_two c.in-Some.ensures.some) in
    let e = g.E.Engine in
    let made = g.S.Store.made self.store in
    let three = c.index-3.result.now in
    let was_three : slice_get items node ≡ Some three = slice_get-get_or items node three c.requires.there.0 ∙ ap (λ (m : Machine). Some m) (sym c.index-3.ensures) in
    let ready = of_there (IsReady made (e.areas self.engine) (g.S.Store.asked self.store node)) (slice_get items node) before was c.requires.ready in
    let later = slice_set items node after in
    let sees = sees_truth g.G.Register g.O.Owners g.S.Store (e.stands self.engine) (e.step self.engine) self.register self.owners self.store x letters clocks (seen later) course tree node session (view_of (record before { tidy = tidy }))
    stands up own live (seen_there later node (record before { tidy = tidy }) is) (of_there (λ (m : Machine). m.session ≡ Some session) (slice_get later node) (record before { tidy = tidy }) is mine) in
    let gives = was_there (λ (m : Machine). IsTruth (held_in m.cache.kept) course.truth → e.stands self.engine course.truth (hint_in m.cache.hinted) tree → Tidies (e.stands self.engine) (e.is_clean self.engine course.truth c.in-Some.area) course.truth tree c.in_ok-attempt.attempt)
    (slice_get items node) three was_three (λ holds agrees. c.in_ok-attempt.ensures.gives course.truth tree holds agrees) in
    let gave = subst (λ (a : Attempt). Tidies (e.stands self.engine) (e.is_clean self.engine course.truth c.in-Some.area) course.truth tree a) c.in-Answer.is
    (of_there (λ (m : Machine). IsTruth (held_in m.cache.kept) course.truth → e.stands self.engine course.truth (hint_in m.cache.hinted) tree → Tidies (e.stands self.engine) (e.is_clean self.engine course.truth c.in-Some.area) course.truth tree c.in_ok-attempt.attempt)
    (slice_get items node) before was gives sees.0.is_truth sees.1) in
    let area : c.in-Some.area ≡ area_of made.areas cleaning.tidy = cleaning.at ∙ ap (λ (n : ℕ). area_of n cleaning.tidy) ready.areas in
    both_there (Cleans (e.is_clean self.engine course.truth) made.areas) (slice_get items node) (slice_get later node) before (record before { tidy = tidy }) was is
    (cleans_end (e.is_clean self.engine course.truth) made.areas before.tidy cleaning.tidy cleaning.is (subst (e.is_clean self.engine course.truth) area gave.0))

pub returns-in-Answer-clause-session : goal.returns-in-Answer-clause-session
returns-in-Answer-clause-session g c =
    let self = c.args.self.now in
    let items = self.machines.items in
    let node = c.args.node in
    let before = c.index_mut-in-Answer.result.now in
    let after : Machine = record before { tidy = None } in
    let tidy : Option Tidy = None in
    let only : after ≡ record before { tidy = tidy } = refl in
    let was : slice_get items node ≡ Some before = slice_get-get_or items node before c.requires.there.0 ∙ ap (λ (m : Machine). Some m) (sym c.index_mut-in-Answer.ensures.value) in
    let is : slice_get (slice_set items node after) node ≡ Some (record before { tidy = tidy }) = set_here items node after before was ∙ ap (λ (m : Machine). Some m) only in
    both_there (λ a b. b.session ≡ a.session) (slice_get items node) (slice_get (slice_set items node after) node) before (record before { tidy = tidy }) was is refl

pub returns-in-Answer-clause-ready : goal.returns-in-Answer-clause-ready
returns-in-Answer-clause-ready g c =
    let self = c.args.self.now in
    let items = self.machines.items in
    let node = c.args.node in
    let before = c.index_mut-in-Answer.result.now in
    let after : Machine = record before { tidy = None } in
    let tidy : Option Tidy = None in
    let only : after ≡ record before { tidy = tidy } = refl in
    let was : slice_get items node ≡ Some before = slice_get-get_or items node before c.requires.there.0 ∙ ap (λ (m : Machine). Some m) (sym c.index_mut-in-Answer.ensures.value) in
    let is : slice_get (slice_set items node after) node ≡ Some (record before { tidy = tidy }) = set_here items node after before was ∙ ap (λ (m : Machine). Some m) only in
    let made = g.S.Store.made self.store in
    let areas = g.E.Engine.areas self.engine in
    let asked = g.S.Store.asked self.store node in
    was_there (IsReady made areas asked) (slice_get (slice_set items node after) node) (record before { tidy = tidy }) is
    (able_as made areas asked before before.mark before.ticks tidy (of_there (IsReady made areas asked) (slice_get items node) before was c.requires.ready))

pub returns-in-Answer-clause-others : goal.returns-in-Answer-clause-others
returns-in-Answer-clause-others g c = record { others = λ other ne. set_there c.args.self.now.machines.items c.args.node other (record c.index_mut-in-Answer.result.now { tidy = None }) ne }

-- ---- what holds it up

pub returns-then-is_some-clause-held_up : goal.returns-then-is_some-clause-held_up
returns-then-is_some-clause-held_up g c = λ x letters clocks course tree session up stands own live mine.
    let self = c.args.self.now in
    let items = self.machines.items in
    let node = c.args.node in
    let before = c.index_mut.result.now in
    let after : Machine = c.rest.new.self in
    let tidy : Option Tidy = resting before.tidy in
    let only : after ≡ record before { tidy = tidy } = c.rest.ensures in
    let was : slice_get items node ≡ Some before = slice_get-get_or items node before c.requires.there.0 ∙ ap (λ (m : Machine). Some m) (sym c.index_mut.ensures.value) in
    let is : slice_get (slice_set items node after) node ≡ Some (record before { tidy = tidy }) = set_here items node after before was ∙ ap (λ (m : Machine). Some m) only in
    let out = g.S.Store.out_of self.store node in
    let Asks : ℕ → Type 0 = λ at. Asking g.G.Register g.O.Owners (record self { machines = with_item self.machines node after }) node at in
    was_there (IsHeldUp g.E.Engine self.engine out Asks) (slice_get (slice_set items node after) node) (record before { tidy = tidy }) is (held_by_rest g.E.Engine self.engine out Asks before)

pub returns-in_default-clause-held_up : goal.returns-in_default-clause-held_up
returns-in_default-clause-held_up g c = λ x letters clocks course tree session up stands own live mine.
    let self = c.args.self.now in
    let items = self.machines.items in
    let node = c.args.node in
    let two = c.index.result.now in
    let was_two : slice_get items node ≡ Some two = slice_get-get_or items node two c.requires.there.0 ∙ ap (λ (m : Machine). Some m) (sym c.index.ensures) in
    let out = g.S.Store.out_of self.store node in
    let Asks : ℕ → Type 0 = λ at. Asking g.G.Register g.O.Owners self node at in
    was_there (IsHeldUp g.E.Engine self.engine out Asks) (slice_get items node) two was_two (held_by_none g.E.Engine self.engine out Asks two (λ area is. c.in_default.ensures.none refl area is))

pub returns-then-not-done-clause-held_up : goal.returns-then-not-done-clause-held_up
returns-then-not-done-clause-held_up g c = λ x letters clocks course tree session up stands own live mine.
    let self = c.args.self.now in
    let items = self.machines.items in
    let node = c.args.node in
    let two = c.index.result.now in
    let was_two : slice_get items node ≡ Some two = slice_get-get_or items node two c.requires.there.0 ∙ ap (λ (m : Machine). Some m) (sym c.index.ensures) in
    let out = g.S.Store.out_of self.store node in
    let Asks : ℕ → Type 0 = λ at. Asking g.G.Register g.O.Owners self node at in
    was_there (IsHeldUp g.E.Engine self.engine out Asks) (slice_get items node) two was_two
    (held_by_write g.E.Engine self.engine out Asks two (some_out out (λ none. let wrong = sym c.if-not-done.true ∙ c.done.ensures.out none in absurd cc)))

pub returns-in-Need-clause-held_up : goal.returns-in-Need-clause-held_up
returns-in-Need-clause-held_up g c = λ x letters clocks course tree session up stands own live mine.
    let self = c.args.self.now in
    let items = self.machines.items in
    let node = c.args.node in
    let two = c.index.result.now in
    let was_two : slice_get items node ≡ Some two = slice_get-get_or items node two c.requires.there.0 ∙ ap (λ (m : Machine). Some m) (sym c.index.ensures) in
    let e = g.E.Engine in
    let new = c.ask_each.new.self in
    let made = g.S.Store.made self.store in
    let wants = c.items.result.now in
    let out = g.S.Store.out_of new.store node in
    let Asks : ℕ → Type 0 = λ at. Asking g.G.Register g.O.Owners new node at in
    let old_is = slice_get items node in
    let new_is = slice_get new.machines.items node in
    let three = c.index-3.result.now in
    let was_three : slice_get items node ≡ Some three = slice_get-get_or items node three c.requires.there.0 ∙ ap (λ (m : Machine). Some m) (sym c.index-3.ensures) in
    let area = c.in-Some.area in
    let path = e.tidy_path self.engine area (held_in three.cache.kept) (hint_in three.cache.hinted) in
    let fair = subst (λ (l : List (ℕ × Mode)). IsFairNeed (e.areas self.engine) (held_in three.cache.kept) path l) (sym c.items.ensures)
    (subst (λ (a : Attempt). IsFair (e.areas self.engine) (held_in three.cache.kept) path a) c.in-Need.is c.in_ok-attempt.ensures.fair) in
    let Fair : Machine → Type 0 = λ m. IsFairNeed (e.areas self.engine) (held_in m.cache.kept) (e.tidy_path self.engine area (held_in m.cache.kept) (hint_in m.cache.hinted)) wants in
    let ready = of_there (IsReady made (e.areas self.engine) (g.S.Store.asked self.store node)) (slice_get items node) two was_two c.requires.ready in
    let Known : Machine → Type 0 = λ m. IsToClean m area × Fair m × (m.cache.areas ≡ made.areas) in
    let known = was_there Known old_is two was_two (c.in-Some.ensures.some, of_there Fair old_is two was_two (was_there Fair old_is three was_three fair), ready.areas) in
    let same = ap (λ m. m.areas) c.ask_each.ensures.parts.2 in
    subst (λ en. OnOk c.ask_each.result (IfSome new_is (IsHeldUp e en out Asks))) (sym c.ask_each.ensures.parts.1)
    (on_ok_weaker c.ask_each.result
    (λ all. if_then old_is new_is Known (λ a b. (OnlyHolds a b × KeepsUnwanted wants a b) × IsReady (g.S.Store.made new.store) (e.areas new.engine) (g.S.Store.asked new.store node) b) (IsHeldUp e self.engine out Asks) (is_some_there items node c.requires.there.0)
    (λ a b was both. held_by_wants e self.engine out Asks wants a b area was.0 both.0.0 (both.1.areas ∙ same ∙ sym was.2) both.0.1 was.1 all.1.0) known
    (if_and old_is new_is (λ a b. OnlyHolds a b × KeepsUnwanted wants a b) (λ a b. IsReady (g.S.Store.made new.store) (e.areas new.engine) (g.S.Store.asked new.store node) b) (if_and old_is new_is OnlyHolds (KeepsUnwanted wants) all.0.0 all.0.1)
    (if_later old_is new_is (IsReady (g.S.Store.made new.store) (e.areas new.engine) (g.S.Store.asked new.store node)) all.1.1)))
    (both_ok _ _ c.ask_each.result (both_ok _ _ c.ask_each.result c.ask_each.ensures.only c.ask_each.ensures.keeps) (both_ok _ _ c.ask_each.result c.ask_each.ensures.asking c.ask_each.ensures.ready)))

pub returns-in-Inner-clause-held_up : goal.returns-in-Inner-clause-held_up
returns-in-Inner-clause-held_up g c = λ x letters clocks course tree session up stands own live mine.
    let self = c.args.self.now in
    let node = c.args.node in
    let new = c.send.new.self in
    let own_is = g.S.Store.own self.store node in
    let out = g.S.Store.out_of new.store node in
    let Asks : ℕ → Type 0 = λ at. Asking g.G.Register g.O.Owners new node at in
    on_ok_weaker c.send.result
    (λ sends. if_new (slice_get self.machines.items node) (slice_get new.machines.items node) (SendsBody c.tidying.result own_is c.args.lease.until out) (IsHeldUp g.E.Engine new.engine out Asks) (is_some_there self.machines.items node c.requires.there.0)
    (λ a b sent. held_by_write g.E.Engine new.engine out Asks b (some_sent own_is c.args.lease.until sent.runs out c.requires.sessions.1 sent.sent)) sends)
    c.send.ensures.sends

pub returns-in-Answer-clause-held_up : goal.returns-in-Answer-clause-held_up
returns-in-Answer-clause-held_up g c = λ x letters clocks course tree session up stands own live mine.
    let self = c.args.self.now in
    let items = self.machines.items in
    let node = c.args.node in
    let before = c.index_mut-in-Answer.result.now in
    let after : Machine = record before { tidy = None } in
    let tidy : Option Tidy = None in
    let only : after ≡ record before { tidy = tidy } = refl in
    let was : slice_get items node ≡ Some before = slice_get-get_or items node before c.requires.there.0 ∙ ap (λ (m : Machine). Some m) (sym c.index_mut-in-Answer.ensures.value) in
    let is : slice_get (slice_set items node after) node ≡ Some (record before { tidy = tidy }) = set_here items node after before was ∙ ap (λ (m : Machine). Some m) only in
    let out = g.S.Store.out_of self.store node in
    let Asks : ℕ → Type 0 = λ at. Asking g.G.Register g.O.Owners (record self { machines = with_item self.machines node after }) node at in
    was_there (IsHeldUp g.E.Engine self.engine out Asks) (slice_get (slice_set items node after) node) (record before { tidy = tidy }) is tt

-- No tidy of a volume changes the tree.
pub returns-clause-held_up : goal.returns-clause-held_up
returns-clause-held_up g c = λ x letters clocks course tree session up stands own live mine.
    let self = c.args.self.now in
    let items = self.machines.items in
    let node = c.args.node in
    let e = g.E.Engine in
    let three = c.index-3.result.now in
    let was_three : slice_get items node ≡ Some three = slice_get-get_or items node three c.requires.there.0 ∙ ap (λ (m : Machine). Some m) (sym c.index-3.ensures) in
    let sees = sees_truth g.G.Register g.O.Owners g.S.Store (e.stands self.engine) (e.step self.engine) self.register self.owners self.store x (letters ++ c.args.out.now) clocks (seen items) course tree node session (view_of three)
    stands up own live (seen_there items node three was_three) (of_there (λ (m : Machine). m.session ≡ Some session) (slice_get items node) three was_three mine) in
    absurd (subst (λ (a : Attempt). Tidies (e.stands self.engine) (e.is_clean self.engine course.truth c.in-Some.area) course.truth tree a) c.in-Change.is (c.in_ok-attempt.ensures.gives course.truth tree sees.0.is_truth sees.1))
