use Rattle.std.proofs.Common.{◌≡◌, ◌⊎◌, ◌∙◌, inl, inr, ℕ, ◌<◌, ◌++◌, [], true, false, Contains, List, length, Option, None, Some, IfSome, IsSome, refl, sym, ap, subst, arith, rules, All}
use Rattle.std.specs.Prelude.{◌==◌, not, slice_get}
use Rattle.std.specs.Vec.{vec_len}
use Rattle.std.proofs.lemmas.Bool.Decides.{nat_tests}
use Rattle.std.specs.List.{AllByRecursion}
use Rattle.bx_base.specs.declared.names.Mode.{Mode}
use Rattle.bx_facts.specs.Chains.{Chain, LivesIn, last}
use Rattle.bx_node_cache.specs.Kept.{held_in, hint_in}
use Rattle.bx_node_steps.specs.Ready.{IsReady}
use Rattle.bx_node_steps.specs.declared.machine.Machine.{Machine}
use Rattle.bx_node_tries.specs.Tries.{AreNeeded, MayWait}
use Rattle.bx_node_tries.specs.declared.round.Said.{Said}
use Rattle.bx_places.specs.Places.{IsBlock}
use Rattle.bx_facts.specs.Holds.{first_of}
use Rattle.bx_nodes.specs.Asks.{KeepsUnneeded, OnlyHolds}
use Rattle.bx_nodes.specs.Giving.{AreWanted, GivesBack, IsInNeeds}
use Rattle.bx_nodes.specs.Going.{Settle}
use Rattle.bx_nodes.specs.Sending.{BeginsBy}
use Rattle.bx_nodes.specs.Standing.{Asking, Stand}
use Rattle.bx_nodes.specs.Turns.{Turned, Waits, newest_of}
use Rattle.bx_nodes.proofs.Calling.{AnswersThere, answers_still, answers_then, begun_there, held_there, idle_there, session_begun, session_held, session_then, session_tried, tried_rests, tried_there}
use Rattle.bx_nodes.proofs.Leading.{later_turned, turned_later, turned_on, turned_still}
use Rattle.bx_nodes.proofs.Machines.{count_waiting, if_and, if_new, if_some, if_then, if_two, is_some_there, none_of, of_there, there_is, two_there, under_then, was_there}
use Rattle.bx_nodes.proofs.Turning.{again, all_need, begins_still, begun, fewer_wait, none_said, rested, settles_all, settles_each, settles_newer, settles_of, some_sent, waiting_same}
use Rattle.bx_nodes.proofs.Tidying.{tidy_begun, tidy_held, tidy_then, tidy_tried}
use Rattle.bx_nodes.proofs.nodes.Nodes.+rounds.Goals as goal
use Rattle.bx_nodes.proofs.nodes.Nodes.+rounds.Goals.{then-is_empty-via-then-is_empty, then-is_empty-via-else-is_empty+then-is_none}

pub returns-in-Some-clause-stands : goal.returns-in-Some-clause-stands
returns-in-Some-clause-stands g t c = λ x letters clocks course tree session up stands own ends live mine.
    let e = g.E.Engine in
    let node = c.args.node in
    let items = c.args.self.now.machines.items in
    let given = c.give_back.new.self in
    let tried = c.attempt.new.self in
    let some = is_some_there items node c.requires.there.0 in
    let less = subst (λ (n : ℕ). node < n) (sym c.in_ok-give_back.ensures.count) c.requires.there.0 in
    let some_given = is_some_there given.machines.items node less in
    let some_tried = is_some_there tried.machines.items node (subst (λ (n : ℕ). node < n) (sym c.in_ok-said.ensures.count) less) in
    let one = c.in_ok-give_back.ensures.stands x letters clocks course tree session up stands own live mine in
    let mine_then = under_then (slice_get items node) (slice_get given.machines.items node) session some c.in_ok-give_back.ensures.only mine in
    let own_then = (c.in_ok-give_back.ensures.own node).0 ∙ own in
    let ends_then = (c.in_ok-give_back.ensures.own node).1 ∙ ends in
    let live_then = subst (λ (chain : Chain). LivesIn (last chain) session) (sym one.chain) live in
    let two : Turned (Some session) (e.step given.engine) (Stand g.G.Register g.O.Owners g.S.Store e tried x (letters ++ c.give_back.new.out) clocks) one.later tree c.in_ok-said.field-0.said.items =
    c.in_ok-said.ensures.stands x (letters ++ c.give_back.new.out) clocks one.later tree session up one.stands own_then live_then mine_then in
    let own_two = ap (λ o. g.O.Owners.own o node) c.in_ok-said.ensures.parts.1 ∙ own_then in
    let ends_two = ap (λ o. g.O.Owners.end_of o node) c.in_ok-said.ensures.parts.1 ∙ ends_then in
    let live_two = subst (λ (chain : Chain). LivesIn (last chain) session) (sym two.chain) live_then in
    let mine_two = if_then (slice_get given.machines.items node) (slice_get tried.machines.items node) (λ (a : Machine). a.session ≡ Some session) (λ (a b : Machine). b ≡ record a { calls = b.calls }) (λ (b : Machine). b.session ≡ Some session)
    some_given (λ a b is only. ap (λ (m : Machine). m.session) only ∙ is) mine_then c.in_ok-said.ensures.only in
    let three = c.in_ok-begin.ensures.stands x letters clocks two.later two.next session up two.stands own_two ends_two live_two mine_two in
    let Final = Stand g.G.Register g.O.Owners g.S.Store e c.begin.new.self x (letters ++ c.begin.new.out) clocks in
    later_turned (e.step c.args.self.now.engine) (λ later. Stand g.G.Register g.O.Owners g.S.Store e given x (letters ++ c.give_back.new.out) clocks later tree) Final course tree c.in_ok-said.field-0.said.items one
    (subst (λ en. Turned (Some session) (e.step en) Final one.later tree c.in_ok-said.field-0.said.items) c.in_ok-give_back.ensures.parts.1
    (turned_still (e.step given.engine) (Stand g.G.Register g.O.Owners g.S.Store e tried x (letters ++ c.give_back.new.out) clocks) Final one.later tree c.in_ok-said.field-0.said.items two (subst (λ en. Turned (Some session) (e.step en) Final two.later two.next []) c.in_ok-said.ensures.parts.3 three)))

pub returns-in-Some-clause-waits : goal.returns-in-Some-clause-waits
returns-in-Some-clause-waits g t c =
    let e = g.E.Engine in
    let node = c.args.node in
    let items = c.args.self.now.machines.items in
    let moment = c.args.reading in
    let session = c.args.lease.session in
    let owners = c.args.self.now.owners in
    let given = c.give_back.new.self in
    let tried = c.attempt.new.self in
    let less = subst (λ (n : ℕ). node < n) (sym c.in_ok-give_back.ensures.count) c.requires.there.0 in
    let less_then = subst (λ (n : ℕ). node < n) (sym c.in_ok-said.ensures.count) less in
    let old_is = there_is items node c.requires.there.0 in
    let given_is = there_is given.machines.items node less in
    let tried_is = there_is tried.machines.items node less_then in
    let gives = two_there (λ a b. (back : List ℕ) × GivesBack g.O.Owners node session back owners a given.owners b) (slice_get items node) (slice_get given.machines.items node) old_is.0 given_is.0 old_is.1 given_is.1 c.in_ok-give_back.ensures.gives in
    let held = two_there OnlyHolds (slice_get items node) (slice_get given.machines.items node) old_is.0 given_is.0 old_is.1 given_is.1 c.in_ok-give_back.ensures.only in
    let attempted = two_there (λ a b. b ≡ record a { calls = b.calls }) (slice_get given.machines.items node) (slice_get tried.machines.items node) given_is.0 tried_is.0 given_is.1 tried_is.1 c.in_ok-said.ensures.only in
    let settles = subst (λ (m : Option Machine). Settle c.newest_asked-newest.result moment m (Some tried_is.0) c.in_ok-said.field-0) given_is.1
    (subst (λ (m : Option Machine). Settle c.newest_asked-newest.result moment (slice_get given.machines.items node) m c.in_ok-said.field-0) tried_is.1 c.in_ok-said.ensures.goes) in
    let new = c.begin.new.self in
    let newest = c.newest_asked-newest.result in
    let noted = of_there (λ (m : Machine). newest ≡ newest_of (first_of (g.O.Owners.asks given.owners node)) m) (slice_get given.machines.items node) given_is.0 given_is.1 c.newest_asked-newest.ensures in
    let own = g.S.Store.own tried.store node in
    let out = g.S.Store.out_of new.store node in
    let Asks : ℕ → Type 0 = λ at. Asking g.G.Register g.O.Owners new node at in
    let is_own : IsSome own = subst (λ s. IsSome (g.S.Store.own s node)) (sym c.in_ok-said.ensures.parts.2) (subst (λ s. IsSome (g.S.Store.own s node)) (sym c.in_ok-give_back.ensures.parts.2) c.requires.sessions.1) in
    was_there (λ (a : Machine). IfSome (slice_get new.machines.items node) (Waits g.O.Owners e new.engine node moment session c.in_ok-said.field-0.said.items owners new.owners out Asks a)) (slice_get items node) old_is.0 old_is.1
    (if_new (slice_get tried.machines.items node) (slice_get new.machines.items node) (λ a b. (a ≡ tried_is.0) × BeginsBy moment c.in-Some.begun own c.args.lease.until out a b)
    (Waits g.O.Owners e new.engine node moment session c.in_ok-said.field-0.said.items owners new.owners out Asks old_is.0) (is_some_there tried.machines.items node less_then)
    (λ a b both. begun g.O.Owners e new.engine node moment session c.in_ok-said.field-0.said.items owners given.owners new.owners gives.0 out Asks old_is.0 given_is.0 gives.1 held b newest noted
    (λ call has newer. begins_still moment c.in-Some.begun own c.args.lease.until out a b both.1 call
    (subst (λ (m : Machine). Contains m.calls.items call) (sym both.0) (settles_newer moment given_is.0 tried_is.0 c.in_ok-said.field-0 settles call has newer)))
    (some_sent own c.args.lease.until both.1.sends.runs out is_own both.1.sends.sent)
    (c.in_ok-begin.ensures.parts.1 ∙ c.in_ok-said.ensures.parts.1))
    (if_two (slice_get tried.machines.items node) (slice_get new.machines.items node) (λ a. a ≡ tried_is.0) (BeginsBy moment c.in-Some.begun own c.args.lease.until out) (λ a b. (a ≡ tried_is.0) × BeginsBy moment c.in-Some.begun own c.args.lease.until out a b)
    (λ a b is begins. (is, begins)) (was_there (λ a. a ≡ tried_is.0) (slice_get tried.machines.items node) tried_is.0 tried_is.1 refl) c.in_ok-begin.ensures.begins))

pub ask_all-requires-clause-blocks : goal.ask_all-requires-clause-blocks
ask_all-requires-clause-blocks g t c =
    let e = g.E.Engine in
    let node = c.args.node in
    let items = c.args.self.now.machines.items in
    let given = c.give_back.new.self in
    let tried = c.attempt.new.self in
    let some = is_some_there items node c.requires.there.0 in
    let less = subst (λ (n : ℕ). node < n) (sym c.in_ok-give_back.ensures.count) c.requires.there.0 in
    let some_given = is_some_there given.machines.items node less in
    let some_tried = is_some_there tried.machines.items node (subst (λ (n : ℕ). node < n) (sym c.in_ok-said.ensures.count) less) in
    let found = there_is given.machines.items node less in
    let its = there_is tried.machines.items node (subst (λ (n : ℕ). node < n) (sym c.in_ok-said.ensures.count) less) in
    let ready = of_there (IsReady (g.S.Store.made given.store) (e.areas given.engine) (g.S.Store.asked given.store node)) (slice_get given.machines.items node) found.0 found.1 c.in_ok-give_back.ensures.ready in
    let same = ap (λ en. e.areas en) c.in_ok-said.ensures.parts.3 ∙ ready.engine ∙ sym (ap (λ s. (g.S.Store.made s).areas) c.in_ok-said.ensures.parts.2) in
    let needed = of_there (λ (m : Machine). All (AreNeeded e tried.engine (held_in m.cache.kept) (hint_in m.cache.hinted) c.args.reading m.calls.items) c.in_ok-said.field-0.needs.items) (slice_get tried.machines.items node) its.0 its.1
    c.in_ok-said.ensures.needs in
    subst (λ (l : List (List (ℕ × Mode))). AllByRecursion (AllByRecursion (λ wanted. IsBlock (g.S.Store.made tried.store).areas wanted.0)) l) (sym c.as_slice.ensures.value)
    (all_need e tried.engine (held_in its.0.cache.kept) (hint_in its.0.cache.hinted) c.args.reading (g.S.Store.made tried.store).areas its.0.calls.items c.in_ok-said.field-0.needs.items same needed)

pub returns-then-is_empty-clause-stands : goal.returns-then-is_empty-clause-stands
returns-then-is_empty-clause-stands g t c = λ x letters clocks course tree session up stands own ends live mine.
    let e = g.E.Engine in
    let node = c.args.node in
    let items = c.args.self.now.machines.items in
    let given = c.give_back.new.self in
    let tried = c.attempt.new.self in
    let some = is_some_there items node c.requires.there.0 in
    let less = subst (λ (n : ℕ). node < n) (sym c.in_ok-give_back.ensures.count) c.requires.there.0 in
    let some_given = is_some_there given.machines.items node less in
    let some_tried = is_some_there tried.machines.items node (subst (λ (n : ℕ). node < n) (sym c.in_ok-said.ensures.count) less) in
    let one = c.in_ok-give_back.ensures.stands x letters clocks course tree session up stands own live mine in
    let mine_then = under_then (slice_get items node) (slice_get given.machines.items node) session some c.in_ok-give_back.ensures.only mine in
    let own_then = (c.in_ok-give_back.ensures.own node).0 ∙ own in
    let ends_then = (c.in_ok-give_back.ensures.own node).1 ∙ ends in
    let live_then = subst (λ (chain : Chain). LivesIn (last chain) session) (sym one.chain) live in
    let two : Turned (Some session) (e.step given.engine) (Stand g.G.Register g.O.Owners g.S.Store e tried x (letters ++ c.give_back.new.out) clocks) one.later tree c.in_ok-said.field-0.said.items =
    c.in_ok-said.ensures.stands x (letters ++ c.give_back.new.out) clocks one.later tree session up one.stands own_then live_then mine_then in
    let own_two = ap (λ o. g.O.Owners.own o node) c.in_ok-said.ensures.parts.1 ∙ own_then in
    let ends_two = ap (λ o. g.O.Owners.end_of o node) c.in_ok-said.ensures.parts.1 ∙ ends_then in
    let live_two = subst (λ (chain : Chain). LivesIn (last chain) session) (sym two.chain) live_then in
    let mine_two = if_then (slice_get given.machines.items node) (slice_get tried.machines.items node) (λ (a : Machine). a.session ≡ Some session) (λ (a b : Machine). b ≡ record a { calls = b.calls }) (λ (b : Machine). b.session ≡ Some session)
    some_given (λ a b is only. ap (λ (m : Machine). m.session) only ∙ is) mine_then c.in_ok-said.ensures.only in
    let four = c.in_ok-ask_all.ensures.stands x letters clocks two.later two.next session up two.stands own_two live_two mine_two in
    let Final = Stand g.G.Register g.O.Owners g.S.Store e c.ask_all.new.self x (letters ++ c.ask_all.new.out) clocks in
    later_turned (e.step c.args.self.now.engine) (λ later. Stand g.G.Register g.O.Owners g.S.Store e given x (letters ++ c.give_back.new.out) clocks later tree) Final course tree c.in_ok-said.field-0.said.items one
    (subst (λ en. Turned (Some session) (e.step en) Final one.later tree c.in_ok-said.field-0.said.items) c.in_ok-give_back.ensures.parts.1
    (turned_later (e.step given.engine) (Stand g.G.Register g.O.Owners g.S.Store e tried x (letters ++ c.give_back.new.out) clocks) Final one.later tree c.in_ok-said.field-0.said.items two four))

pub returns-then-is_empty-clause-waits : goal.returns-then-is_empty-clause-waits
returns-then-is_empty-clause-waits g t c =
    let e = g.E.Engine in
    let node = c.args.node in
    let items = c.args.self.now.machines.items in
    let moment = c.args.reading in
    let session = c.args.lease.session in
    let owners = c.args.self.now.owners in
    let given = c.give_back.new.self in
    let tried = c.attempt.new.self in
    let less = subst (λ (n : ℕ). node < n) (sym c.in_ok-give_back.ensures.count) c.requires.there.0 in
    let less_then = subst (λ (n : ℕ). node < n) (sym c.in_ok-said.ensures.count) less in
    let old_is = there_is items node c.requires.there.0 in
    let given_is = there_is given.machines.items node less in
    let tried_is = there_is tried.machines.items node less_then in
    let gives = two_there (λ a b. (back : List ℕ) × GivesBack g.O.Owners node session back owners a given.owners b) (slice_get items node) (slice_get given.machines.items node) old_is.0 given_is.0 old_is.1 given_is.1 c.in_ok-give_back.ensures.gives in
    let held = two_there OnlyHolds (slice_get items node) (slice_get given.machines.items node) old_is.0 given_is.0 old_is.1 given_is.1 c.in_ok-give_back.ensures.only in
    let attempted = two_there (λ a b. b ≡ record a { calls = b.calls }) (slice_get given.machines.items node) (slice_get tried.machines.items node) given_is.0 tried_is.0 given_is.1 tried_is.1 c.in_ok-said.ensures.only in
    let settles = subst (λ (m : Option Machine). Settle c.newest_asked-newest.result moment m (Some tried_is.0) c.in_ok-said.field-0) given_is.1
    (subst (λ (m : Option Machine). Settle c.newest_asked-newest.result moment (slice_get given.machines.items node) m c.in_ok-said.field-0) tried_is.1 c.in_ok-said.ensures.goes) in
    let new = c.ask_all.new.self in
    let out = g.S.Store.out_of new.store node in
    let Asks : ℕ → Type 0 = λ at. Asking g.G.Register g.O.Owners new node at in
    let needs = c.in_ok-said.field-0.needs.items in
    let newest = c.newest_asked-newest.result in
    let same = c.as_slice.ensures.value in
    let engine = sym c.in_ok-ask_all.ensures.parts.1 in
    let noted = of_there (λ (m : Machine). newest ≡ newest_of (first_of (g.O.Owners.asks given.owners node)) m) (slice_get given.machines.items node) given_is.0 given_is.1 c.newest_asked-newest.ensures in
    let waits = of_there (λ (m : Machine). All (MayWait e new.engine (held_in m.cache.kept) (hint_in m.cache.hinted) moment newest true needs) m.calls.items) (slice_get tried.machines.items node) tried_is.0 tried_is.1
    (subst (λ en. IfSome (slice_get tried.machines.items node) (λ (m : Machine). All (MayWait e en (held_in m.cache.kept) (hint_in m.cache.hinted) moment newest true needs) m.calls.items)) engine (c.in_ok-said.ensures.waits c.in_default.is)) in
    let needed = of_there (λ (m : Machine). All (AreNeeded e new.engine (held_in m.cache.kept) (hint_in m.cache.hinted) moment m.calls.items) needs) (slice_get tried.machines.items node) tried_is.0 tried_is.1
    (subst (λ en. IfSome (slice_get tried.machines.items node) (λ (m : Machine). All (AreNeeded e en (held_in m.cache.kept) (hint_in m.cache.hinted) moment m.calls.items) needs)) engine c.in_ok-said.ensures.needs) in
    let wanted : AreWanted g.O.Owners node (IsInNeeds needs) given.owners new.owners = subst (λ w. AreWanted g.O.Owners node (IsInNeeds needs) w new.owners) c.in_ok-said.ensures.parts.1
    (subst (λ (l : List (List (ℕ × Mode))). AreWanted g.O.Owners node (IsInNeeds l) tried.owners new.owners) same c.in_ok-ask_all.ensures.owners) in
    let left : (newest ≡ None) ⊎ (tried_is.0.calls.items ≡ given_is.0.calls.items) = elim c.then-is_empty.branch [
      | then-is_empty-via-then-is_empty w ↦ let none : (vec_len c.in_ok-said.field-0.said == 0) ≡ true = sym c.is_empty.ensures ∙ w.if-is_empty.true in
          let few = c.in_ok-said.field-0.said.ok in
          inr (settles_all moment given_is.0 tried_is.0 c.in_ok-said.field-0 settles (none_said c.in_ok-said.field-0.said.items (grind (arith, nat_tests, none, few))) c.in_default.is)
      | then-is_empty-via-else-is_empty+then-is_none w ↦ inl (none_of newest (w.is_none.ensures ∙ ap not w.if-is_none.true))
    ] in
    was_there (λ (a : Machine). IfSome (slice_get new.machines.items node) (Waits g.O.Owners e new.engine node moment session c.in_ok-said.field-0.said.items owners new.owners out Asks a)) (slice_get items node) old_is.0 old_is.1
    (if_new (slice_get tried.machines.items node) (slice_get new.machines.items node) (λ a b. (a ≡ tried_is.0) × OnlyHolds a b × KeepsUnneeded needs a b) (Waits g.O.Owners e new.engine node moment session c.in_ok-said.field-0.said.items owners new.owners out Asks old_is.0) (is_some_there tried.machines.items node less_then)
    (λ a b both. rested g.O.Owners e new.engine node moment session c.in_ok-said.field-0.said.items owners given.owners new.owners gives.0 out Asks old_is.0 given_is.0 gives.1 held tried_is.0 b newest needs noted attempted (settles_newer moment given_is.0 tried_is.0 c.in_ok-said.field-0 settles) left
    (subst (λ (m : Machine). OnlyHolds m b) both.0 both.1) (subst (λ (m : Machine). KeepsUnneeded needs m b) both.0 both.2) wanted waits needed
    (subst (λ (l : List (List (ℕ × Mode))). AllByRecursion (AllByRecursion (λ wanted. Asks wanted.0)) l) same c.in_ok-ask_all.ensures.asking))
    (if_two (slice_get tried.machines.items node) (slice_get new.machines.items node) (λ a. a ≡ tried_is.0) (λ a b. OnlyHolds a b × KeepsUnneeded needs a b) (λ a b. (a ≡ tried_is.0) × OnlyHolds a b × KeepsUnneeded needs a b) (λ a b is both. (is, both.0, both.1))
    (was_there (λ a. a ≡ tried_is.0) (slice_get tried.machines.items node) tried_is.0 tried_is.1 refl)
    (if_and (slice_get tried.machines.items node) (slice_get new.machines.items node) OnlyHolds (KeepsUnneeded needs) c.in_ok-ask_all.ensures.only
    (subst (λ (l : List (List (ℕ × Mode))). IfSome (slice_get tried.machines.items node) (λ a. IfSome (slice_get new.machines.items node) (KeepsUnneeded l a))) same c.in_ok-ask_all.ensures.keeps))))

pub returns-clause-waits : goal.returns-clause-waits
returns-clause-waits g t c =
    let e = g.E.Engine in
    let node = c.args.node in
    let items = c.args.self.now.machines.items in
    let moment = c.args.reading in
    let session = c.args.lease.session in
    let owners = c.args.self.now.owners in
    let given = c.give_back.new.self in
    let tried = c.attempt.new.self in
    let less = subst (λ (n : ℕ). node < n) (sym c.in_ok-give_back.ensures.count) c.requires.there.0 in
    let less_then = subst (λ (n : ℕ). node < n) (sym c.in_ok-said.ensures.count) less in
    let old_is = there_is items node c.requires.there.0 in
    let given_is = there_is given.machines.items node less in
    let tried_is = there_is tried.machines.items node less_then in
    let gives = two_there (λ a b. (back : List ℕ) × GivesBack g.O.Owners node session back owners a given.owners b) (slice_get items node) (slice_get given.machines.items node) old_is.0 given_is.0 old_is.1 given_is.1 c.in_ok-give_back.ensures.gives in
    let held = two_there OnlyHolds (slice_get items node) (slice_get given.machines.items node) old_is.0 given_is.0 old_is.1 given_is.1 c.in_ok-give_back.ensures.only in
    let attempted = two_there (λ a b. b ≡ record a { calls = b.calls }) (slice_get given.machines.items node) (slice_get tried.machines.items node) given_is.0 tried_is.0 given_is.1 tried_is.1 c.in_ok-said.ensures.only in
    let settles = subst (λ (m : Option Machine). Settle c.newest_asked-newest.result moment m (Some tried_is.0) c.in_ok-said.field-0) given_is.1
    (subst (λ (m : Option Machine). Settle c.newest_asked-newest.result moment (slice_get given.machines.items node) m c.in_ok-said.field-0) tried_is.1 c.in_ok-said.ensures.goes) in
    let new = c.rounds.new.self in
    let newest = c.newest_asked-newest.result in
    let noted = of_there (λ (m : Machine). newest ≡ newest_of (first_of (g.O.Owners.asks given.owners node)) m) (slice_get given.machines.items node) given_is.0 given_is.1 c.newest_asked-newest.ensures in
    let said = c.in_ok-said.field-0.said.items in
    let more = c.in_ok-more.more.items in
    let all = c.append.new.self.items in
    let out = g.S.Store.out_of new.store node in
    let Asks : ℕ → Type 0 = λ at. Asking g.G.Register g.O.Owners new node at in
    was_there (λ (a : Machine). IfSome (slice_get new.machines.items node) (Waits g.O.Owners e new.engine node moment session all owners new.owners out Asks a)) (slice_get items node) old_is.0 old_is.1
    (if_some (slice_get new.machines.items node) (Waits g.O.Owners e new.engine node moment session more given.owners new.owners out Asks tried_is.0) (Waits g.O.Owners e new.engine node moment session all owners new.owners out Asks old_is.0)
    (λ b waits. again g.O.Owners e new.engine node moment session all owners given.owners new.owners gives.0 out Asks old_is.0 given_is.0 gives.1 held said more tried_is.0 c.in_ok-append.ensures.items attempted (settles_of moment given_is.0 tried_is.0 c.in_ok-said.field-0 settles) (settles_each moment given_is.0 tried_is.0 c.in_ok-said.field-0 settles c.in_default.is)
    b newest noted (settles_newer moment given_is.0 tried_is.0 c.in_ok-said.field-0 settles) waits)
    (subst (λ w. IfSome (slice_get new.machines.items node) (Waits g.O.Owners e new.engine node moment session more w new.owners out Asks tried_is.0)) c.in_ok-said.ensures.parts.1
    (of_there (λ (m : Machine). IfSome (slice_get new.machines.items node) (Waits g.O.Owners e new.engine node moment session more tried.owners new.owners out Asks m)) (slice_get tried.machines.items node) tried_is.0 tried_is.1 c.in_ok-more.ensures.waits)))

pub rounds-requires : goal.rounds-requires
rounds-requires g t c κs within =
    let e = g.E.Engine in
    let node = c.args.node in
    let items = c.args.self.now.machines.items in
    let given = c.give_back.new.self in
    let tried = c.attempt.new.self in
    let some = is_some_there items node c.requires.there.0 in
    let less = subst (λ (n : ℕ). node < n) (sym c.in_ok-give_back.ensures.count) c.requires.there.0 in
    let some_given = is_some_there given.machines.items node less in
    let some_tried = is_some_there tried.machines.items node (subst (λ (n : ℕ). node < n) (sym c.in_ok-said.ensures.count) less) in
    let same = waiting_same (slice_get items node) (slice_get given.machines.items node) some some_given c.in_ok-give_back.ensures.only in
    let none : (vec_len c.in_ok-said.field-0.said == 0) ≡ false = sym c.is_empty.ensures ∙ c.if-is_empty.false in
    let few = c.in_ok-said.field-0.said.ok in
    let one_said : 0 < length c.in_ok-said.field-0.said.items = grind (arith, nat_tests, none, few) in
    let fewer = fewer_wait c.newest_asked-newest.result c.args.reading (slice_get given.machines.items node) (slice_get tried.machines.items node) c.in_ok-said.field-0 c.in_ok-said.ensures.goes one_said in
    let fall : count_waiting (slice_get tried.machines.items node) < count_waiting (slice_get items node) = omega (arith, same, fewer) in
    search (rules, fall)

pub returns-clause-stands : goal.returns-clause-stands
returns-clause-stands g t c = λ x letters clocks course tree session up stands own ends live mine.
    let e = g.E.Engine in
    let node = c.args.node in
    let items = c.args.self.now.machines.items in
    let given = c.give_back.new.self in
    let tried = c.attempt.new.self in
    let some = is_some_there items node c.requires.there.0 in
    let less = subst (λ (n : ℕ). node < n) (sym c.in_ok-give_back.ensures.count) c.requires.there.0 in
    let some_given = is_some_there given.machines.items node less in
    let some_tried = is_some_there tried.machines.items node (subst (λ (n : ℕ). node < n) (sym c.in_ok-said.ensures.count) less) in
    let one = c.in_ok-give_back.ensures.stands x letters clocks course tree session up stands own live mine in
    let mine_then = under_then (slice_get items node) (slice_get given.machines.items node) session some c.in_ok-give_back.ensures.only mine in
    let own_then = (c.in_ok-give_back.ensures.own node).0 ∙ own in
    let ends_then = (c.in_ok-give_back.ensures.own node).1 ∙ ends in
    let live_then = subst (λ (chain : Chain). LivesIn (last chain) session) (sym one.chain) live in
    let two : Turned (Some session) (e.step given.engine) (Stand g.G.Register g.O.Owners g.S.Store e tried x (letters ++ c.give_back.new.out) clocks) one.later tree c.in_ok-said.field-0.said.items =
    c.in_ok-said.ensures.stands x (letters ++ c.give_back.new.out) clocks one.later tree session up one.stands own_then live_then mine_then in
    let own_two = ap (λ o. g.O.Owners.own o node) c.in_ok-said.ensures.parts.1 ∙ own_then in
    let ends_two = ap (λ o. g.O.Owners.end_of o node) c.in_ok-said.ensures.parts.1 ∙ ends_then in
    let live_two = subst (λ (chain : Chain). LivesIn (last chain) session) (sym two.chain) live_then in
    let mine_two = if_then (slice_get given.machines.items node) (slice_get tried.machines.items node) (λ (a : Machine). a.session ≡ Some session) (λ (a b : Machine). b ≡ record a { calls = b.calls }) (λ (b : Machine). b.session ≡ Some session)
    some_given (λ a b is only. ap (λ (m : Machine). m.session) only ∙ is) mine_then c.in_ok-said.ensures.only in
    let five = c.in_ok-more.ensures.stands x letters clocks two.later two.next session up two.stands own_two ends_two live_two mine_two in
    let said : List Said = c.in_ok-said.field-0.said.items ++ c.in_ok-more.more.items in
    let Final = Stand g.G.Register g.O.Owners g.S.Store e c.rounds.new.self x (letters ++ c.rounds.new.out) clocks in
    later_turned (e.step c.args.self.now.engine) (λ later. Stand g.G.Register g.O.Owners g.S.Store e given x (letters ++ c.give_back.new.out) clocks later tree) Final course tree c.append.new.self.items one
    (subst (λ en. Turned (Some session) (e.step en) Final one.later tree c.append.new.self.items) c.in_ok-give_back.ensures.parts.1
    (subst (λ (l : List Said). Turned (Some session) (e.step given.engine) Final one.later tree l) (sym c.in_ok-append.ensures.items) (turned_on (e.step given.engine) (Stand g.G.Register g.O.Owners g.S.Store e tried x (letters ++ c.give_back.new.out) clocks) Final one.later tree c.in_ok-said.field-0.said.items c.in_ok-more.more.items two (subst (λ en. Turned (Some session) (e.step en) Final two.later two.next c.in_ok-more.more.items) c.in_ok-said.ensures.parts.3 five))))

pub returns-in-Some-clause-answers : goal.returns-in-Some-clause-answers
returns-in-Some-clause-answers g t c =
    let node = c.args.node in
    let items = c.args.self.now.machines.items in
    let given = c.give_back.new.self in
    let tried = c.attempt.new.self in
    let moment = c.args.reading in
    let less = subst (λ (n : ℕ). node < n) (sym c.in_ok-give_back.ensures.count) c.requires.there.0 in
    let some_given = is_some_there given.machines.items node less in
    let some_tried = is_some_there tried.machines.items node (subst (λ (n : ℕ). node < n) (sym c.in_ok-said.ensures.count) less) in
    let said = c.in_ok-said.field-0.said.items in
    let new = c.begin.new.self in
    let one = held_there moment (slice_get items node) (slice_get given.machines.items node) c.requires.rests c.in_ok-give_back.ensures.only in
    let two = begun_there c.newest_asked-newest.result moment (slice_get given.machines.items node) (slice_get tried.machines.items node) (slice_get new.machines.items node) c.in_ok-said.field-0 c.in-Some.begun (g.S.Store.own tried.store node) c.args.lease.until (g.S.Store.out_of new.store node)
    c.in_ok-give_back.ensures.rests c.in_ok-said.ensures.goes c.in-Some.is c.in_ok-begin.ensures.begins in
    answers_then moment [] said (slice_get items node) (slice_get given.machines.items node) (slice_get new.machines.items node) some_given one two

pub returns-in-Some-clause-session : goal.returns-in-Some-clause-session
returns-in-Some-clause-session g t c =
    let node = c.args.node in
    let items = c.args.self.now.machines.items in
    let given = c.give_back.new.self in
    let tried = c.attempt.new.self in
    let moment = c.args.reading in
    let less = subst (λ (n : ℕ). node < n) (sym c.in_ok-give_back.ensures.count) c.requires.there.0 in
    let some_given = is_some_there given.machines.items node less in
    let some_tried = is_some_there tried.machines.items node (subst (λ (n : ℕ). node < n) (sym c.in_ok-said.ensures.count) less) in
    let said = c.in_ok-said.field-0.said.items in
    let new = c.begin.new.self in
    session_then (slice_get items node) (slice_get tried.machines.items node) (slice_get new.machines.items node) some_tried
    (session_then (slice_get items node) (slice_get given.machines.items node) (slice_get tried.machines.items node) some_given
    (session_held (slice_get items node) (slice_get given.machines.items node) c.in_ok-give_back.ensures.only) (session_tried (slice_get given.machines.items node) (slice_get tried.machines.items node) c.in_ok-said.ensures.only))
    (session_begun moment c.in-Some.begun (g.S.Store.own tried.store node) c.args.lease.until (g.S.Store.out_of new.store node) (slice_get tried.machines.items node) (slice_get new.machines.items node) c.in_ok-begin.ensures.begins)

pub returns-in-Some-clause-tidy : goal.returns-in-Some-clause-tidy
returns-in-Some-clause-tidy g t c =
    let node = c.args.node in
    let items = c.args.self.now.machines.items in
    let given = c.give_back.new.self in
    let tried = c.attempt.new.self in
    let moment = c.args.reading in
    let less = subst (λ (n : ℕ). node < n) (sym c.in_ok-give_back.ensures.count) c.requires.there.0 in
    let some_given = is_some_there given.machines.items node less in
    let some_tried = is_some_there tried.machines.items node (subst (λ (n : ℕ). node < n) (sym c.in_ok-said.ensures.count) less) in
    let said = c.in_ok-said.field-0.said.items in
    let new = c.begin.new.self in
    tidy_then (slice_get items node) (slice_get tried.machines.items node) (slice_get new.machines.items node) some_tried
    (tidy_then (slice_get items node) (slice_get given.machines.items node) (slice_get tried.machines.items node) some_given
    (tidy_held (slice_get items node) (slice_get given.machines.items node) c.in_ok-give_back.ensures.only) (tidy_tried (slice_get given.machines.items node) (slice_get tried.machines.items node) c.in_ok-said.ensures.only))
    (tidy_begun moment c.in-Some.begun (g.S.Store.own tried.store node) c.args.lease.until (g.S.Store.out_of new.store node) (slice_get tried.machines.items node) (slice_get new.machines.items node) c.in_ok-begin.ensures.begins)

pub returns-then-is_empty-clause-answers : goal.returns-then-is_empty-clause-answers
returns-then-is_empty-clause-answers g t c =
    let node = c.args.node in
    let items = c.args.self.now.machines.items in
    let given = c.give_back.new.self in
    let tried = c.attempt.new.self in
    let moment = c.args.reading in
    let less = subst (λ (n : ℕ). node < n) (sym c.in_ok-give_back.ensures.count) c.requires.there.0 in
    let some_given = is_some_there given.machines.items node less in
    let some_tried = is_some_there tried.machines.items node (subst (λ (n : ℕ). node < n) (sym c.in_ok-said.ensures.count) less) in
    let said = c.in_ok-said.field-0.said.items in
    let new = c.ask_all.new.self in
    let rests = tried_rests (slice_get given.machines.items node) (slice_get tried.machines.items node) some_given c.in_ok-said.ensures.only c.in_ok-give_back.ensures.rests in
    let one = held_there moment (slice_get items node) (slice_get given.machines.items node) c.requires.rests c.in_ok-give_back.ensures.only in
    let two = tried_there c.newest_asked-newest.result moment (slice_get given.machines.items node) (slice_get tried.machines.items node) c.in_ok-said.field-0 (idle_there (slice_get given.machines.items node) c.in_ok-give_back.ensures.rests) c.in_ok-said.ensures.only c.in_ok-said.ensures.goes c.in_default.is in
    let three = held_there moment (slice_get tried.machines.items node) (slice_get new.machines.items node) rests c.in_ok-ask_all.ensures.only in
    answers_still moment said (slice_get items node) (slice_get tried.machines.items node) (slice_get new.machines.items node) some_tried
    (answers_then moment [] said (slice_get items node) (slice_get given.machines.items node) (slice_get tried.machines.items node) some_given one two) three

pub returns-then-is_empty-clause-session : goal.returns-then-is_empty-clause-session
returns-then-is_empty-clause-session g t c =
    let node = c.args.node in
    let items = c.args.self.now.machines.items in
    let given = c.give_back.new.self in
    let tried = c.attempt.new.self in
    let moment = c.args.reading in
    let less = subst (λ (n : ℕ). node < n) (sym c.in_ok-give_back.ensures.count) c.requires.there.0 in
    let some_given = is_some_there given.machines.items node less in
    let some_tried = is_some_there tried.machines.items node (subst (λ (n : ℕ). node < n) (sym c.in_ok-said.ensures.count) less) in
    let said = c.in_ok-said.field-0.said.items in
    let new = c.ask_all.new.self in
    session_then (slice_get items node) (slice_get tried.machines.items node) (slice_get new.machines.items node) some_tried
    (session_then (slice_get items node) (slice_get given.machines.items node) (slice_get tried.machines.items node) some_given
    (session_held (slice_get items node) (slice_get given.machines.items node) c.in_ok-give_back.ensures.only) (session_tried (slice_get given.machines.items node) (slice_get tried.machines.items node) c.in_ok-said.ensures.only))
    (session_held (slice_get tried.machines.items node) (slice_get new.machines.items node) c.in_ok-ask_all.ensures.only)

pub returns-then-is_empty-clause-tidy : goal.returns-then-is_empty-clause-tidy
returns-then-is_empty-clause-tidy g t c =
    let node = c.args.node in
    let items = c.args.self.now.machines.items in
    let given = c.give_back.new.self in
    let tried = c.attempt.new.self in
    let moment = c.args.reading in
    let less = subst (λ (n : ℕ). node < n) (sym c.in_ok-give_back.ensures.count) c.requires.there.0 in
    let some_given = is_some_there given.machines.items node less in
    let some_tried = is_some_there tried.machines.items node (subst (λ (n : ℕ). node < n) (sym c.in_ok-said.ensures.count) less) in
    let said = c.in_ok-said.field-0.said.items in
    let new = c.ask_all.new.self in
    tidy_then (slice_get items node) (slice_get tried.machines.items node) (slice_get new.machines.items node) some_tried
    (tidy_then (slice_get items node) (slice_get given.machines.items node) (slice_get tried.machines.items node) some_given
    (tidy_held (slice_get items node) (slice_get given.machines.items node) c.in_ok-give_back.ensures.only) (tidy_tried (slice_get given.machines.items node) (slice_get tried.machines.items node) c.in_ok-said.ensures.only))
    (tidy_held (slice_get tried.machines.items node) (slice_get new.machines.items node) c.in_ok-ask_all.ensures.only)

pub returns-clause-answers : goal.returns-clause-answers
returns-clause-answers g t c =
    let node = c.args.node in
    let items = c.args.self.now.machines.items in
    let given = c.give_back.new.self in
    let tried = c.attempt.new.self in
    let moment = c.args.reading in
    let less = subst (λ (n : ℕ). node < n) (sym c.in_ok-give_back.ensures.count) c.requires.there.0 in
    let some_given = is_some_there given.machines.items node less in
    let some_tried = is_some_there tried.machines.items node (subst (λ (n : ℕ). node < n) (sym c.in_ok-said.ensures.count) less) in
    let said = c.in_ok-said.field-0.said.items in
    let new = c.rounds.new.self in
    let one = held_there moment (slice_get items node) (slice_get given.machines.items node) c.requires.rests c.in_ok-give_back.ensures.only in
    let two = tried_there c.newest_asked-newest.result moment (slice_get given.machines.items node) (slice_get tried.machines.items node) c.in_ok-said.field-0 (idle_there (slice_get given.machines.items node) c.in_ok-give_back.ensures.rests) c.in_ok-said.ensures.only c.in_ok-said.ensures.goes c.in_default.is in
    subst (λ (l : List Said). AnswersThere moment l (slice_get items node) (slice_get new.machines.items node)) (sym c.in_ok-append.ensures.items)
    (answers_then moment said c.in_ok-more.more.items (slice_get items node) (slice_get tried.machines.items node) (slice_get new.machines.items node) some_tried
    (answers_then moment [] said (slice_get items node) (slice_get given.machines.items node) (slice_get tried.machines.items node) some_given one two) c.in_ok-more.ensures.answers)

pub returns-clause-session : goal.returns-clause-session
returns-clause-session g t c =
    let node = c.args.node in
    let items = c.args.self.now.machines.items in
    let given = c.give_back.new.self in
    let tried = c.attempt.new.self in
    let moment = c.args.reading in
    let less = subst (λ (n : ℕ). node < n) (sym c.in_ok-give_back.ensures.count) c.requires.there.0 in
    let some_given = is_some_there given.machines.items node less in
    let some_tried = is_some_there tried.machines.items node (subst (λ (n : ℕ). node < n) (sym c.in_ok-said.ensures.count) less) in
    let said = c.in_ok-said.field-0.said.items in
    let new = c.rounds.new.self in
    session_then (slice_get items node) (slice_get tried.machines.items node) (slice_get new.machines.items node) some_tried
    (session_then (slice_get items node) (slice_get given.machines.items node) (slice_get tried.machines.items node) some_given
    (session_held (slice_get items node) (slice_get given.machines.items node) c.in_ok-give_back.ensures.only) (session_tried (slice_get given.machines.items node) (slice_get tried.machines.items node) c.in_ok-said.ensures.only))
    c.in_ok-more.ensures.session

pub returns-clause-tidy : goal.returns-clause-tidy
returns-clause-tidy g t c =
    let node = c.args.node in
    let items = c.args.self.now.machines.items in
    let given = c.give_back.new.self in
    let tried = c.attempt.new.self in
    let moment = c.args.reading in
    let less = subst (λ (n : ℕ). node < n) (sym c.in_ok-give_back.ensures.count) c.requires.there.0 in
    let some_given = is_some_there given.machines.items node less in
    let some_tried = is_some_there tried.machines.items node (subst (λ (n : ℕ). node < n) (sym c.in_ok-said.ensures.count) less) in
    let said = c.in_ok-said.field-0.said.items in
    let new = c.rounds.new.self in
    tidy_then (slice_get items node) (slice_get tried.machines.items node) (slice_get new.machines.items node) some_tried
    (tidy_then (slice_get items node) (slice_get given.machines.items node) (slice_get tried.machines.items node) some_given
    (tidy_held (slice_get items node) (slice_get given.machines.items node) c.in_ok-give_back.ensures.only) (tidy_tried (slice_get given.machines.items node) (slice_get tried.machines.items node) c.in_ok-said.ensures.only))
    c.in_ok-more.ensures.tidy

pub returns-in-Some-clause-own : goal.returns-in-Some-clause-own
returns-in-Some-clause-own g t c = λ other.
    let one = c.in_ok-give_back.ensures.own other in
    let two = c.in_ok-begin.ensures.parts.1 ∙ c.in_ok-said.ensures.parts.1 in
    (ap (λ w. g.O.Owners.own w other) two ∙ one.0, ap (λ w. g.O.Owners.end_of w other) two ∙ one.1)

pub returns-then-is_empty-clause-own : goal.returns-then-is_empty-clause-own
returns-then-is_empty-clause-own g t c = λ other.
    let one = c.in_ok-give_back.ensures.own other in
    let two = c.in_ok-said.ensures.parts.1 in
    let three = c.in_ok-ask_all.ensures.own other in
    (three.0 ∙ ap (λ w. g.O.Owners.own w other) two ∙ one.0, three.1 ∙ ap (λ w. g.O.Owners.end_of w other) two ∙ one.1)

pub returns-clause-own : goal.returns-clause-own
returns-clause-own g t c = λ other.
    let one = c.in_ok-give_back.ensures.own other in
    let two = c.in_ok-said.ensures.parts.1 in
    let three = c.in_ok-more.ensures.own other in
    (three.0 ∙ ap (λ w. g.O.Owners.own w other) two ∙ one.0, three.1 ∙ ap (λ w. g.O.Owners.end_of w other) two ∙ one.1)

pub returns-in-Some-clause-store : goal.returns-in-Some-clause-store
returns-in-Some-clause-store g t c =
    let node = c.args.node in
    (c.in_ok-begin.ensures.store node).0 ∙ ap (λ s. g.S.Store.own s node) (c.in_ok-said.ensures.parts.2 ∙ c.in_ok-give_back.ensures.parts.2)

pub returns-then-is_empty-clause-store : goal.returns-then-is_empty-clause-store
returns-then-is_empty-clause-store g t c =
    let node = c.args.node in
    (c.in_ok-ask_all.ensures.own node).2 ∙ ap (λ s. g.S.Store.own s node) (c.in_ok-said.ensures.parts.2 ∙ c.in_ok-give_back.ensures.parts.2)

pub returns-clause-store : goal.returns-clause-store
returns-clause-store g t c =
    let node = c.args.node in
    c.in_ok-more.ensures.store ∙ ap (λ s. g.S.Store.own s node) (c.in_ok-said.ensures.parts.2 ∙ c.in_ok-give_back.ensures.parts.2)
