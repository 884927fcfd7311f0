use Rattle.std.proofs.Common.{◌≡◌, ◌∙◌, inl, inr, ℕ, ◌<◌, ◌++◌, [], Option, Some, None, IfSome, IsSome, refl, sym, ap, subst}
use Rattle.std.specs.Prelude.{slice_get}
use Rattle.bx_facts.specs.Chains.{Chain, LivesIn, last}
use Rattle.bx_node_steps.specs.declared.machine.Machine.{Machine}
use Rattle.bx_nodes.specs.Cleaning.{IsHeldUp}
use Rattle.bx_nodes.specs.Standing.{Asking, Stand}
use Rattle.bx_nodes.specs.Turns.{Turned, Waits}
use Rattle.bx_nodes.proofs.Calling.{answers_still, is_fits, numbered_there, session_then, session_tried, session_under, tried_there}
use Rattle.bx_nodes.proofs.Cleaning.{Cleans, cleans_kept, cleans_then, goes_there}
use Rattle.bx_nodes.proofs.HoldingUp.{held_by_write, some_out}
use Rattle.bx_nodes.proofs.Leading.{turned_still}
use Rattle.bx_nodes.proofs.Machines.{if_all, if_some, is_some_there, of_there, there_is, was_there}
use Rattle.bx_nodes.proofs.Tidying.{tidy_left, tidy_stays, tidy_tried}
use Rattle.bx_nodes.proofs.nodes.Nodes.attempt_turn.Goals as goal

pub returns-then-not-done-clause-answers : goal.returns-then-not-done-clause-answers
returns-then-not-done-clause-answers g c =
    let node = c.args.node in
    let old = c.args.self.now in
    let new = c.attempt.new.self in
    let fits = is_fits (g.S.Store.made old.store) (g.E.Engine.areas old.engine) (g.S.Store.asked old.store node) (slice_get old.machines.items node) c.requires.ready in
    tried_there None c.args.reading (slice_get old.machines.items node) (slice_get new.machines.items node) c.in_ok-attempted.attempted (numbered_there (slice_get old.machines.items node) fits) c.in_ok-attempted.ensures.only
    c.in_ok-attempted.ensures.goes (c.in_ok-attempted.ensures.may refl)

pub returns-then-not-done-clause-session : goal.returns-then-not-done-clause-session
returns-then-not-done-clause-session g c =
    let node = c.args.node in
    session_tried (slice_get c.args.self.now.machines.items node) (slice_get c.attempt.new.self.machines.items node) c.in_ok-attempted.ensures.only

pub returns-then-not-done-clause-tidies : goal.returns-then-not-done-clause-tidies
returns-then-not-done-clause-tidies g c =
    let old = slice_get c.args.self.now.machines.items c.args.node in
    let new = slice_get c.attempt.new.self.machines.items c.args.node in
    tidy_stays old new (tidy_tried old new c.in_ok-attempted.ensures.only)

pub returns-then-not-done-clause-cleans : goal.returns-then-not-done-clause-cleans
returns-then-not-done-clause-cleans g c = λ x letters clocks course tree session up stands own live mine.
    let old = slice_get c.args.self.now.machines.items c.args.node in
    let new = slice_get c.attempt.new.self.machines.items c.args.node in
    cleans_kept (g.E.Engine.is_clean c.args.self.now.engine course.truth) (g.S.Store.made c.args.self.now.store).areas old new (tidy_left old new (tidy_tried old new c.in_ok-attempted.ensures.only))

pub returns-then-not-done-clause-own : goal.returns-then-not-done-clause-own
returns-then-not-done-clause-own g c = λ other. (ap (λ w. g.O.Owners.own w other) c.in_ok-attempted.ensures.parts.1, ap (λ w. g.O.Owners.end_of w other) c.in_ok-attempted.ensures.parts.1)

pub tidy-requires-clause-sessions : goal.tidy-requires-clause-sessions
tidy-requires-clause-sessions g c = (
  subst (λ (o : Option ℕ). IsSome o) (sym (c.in_ok-said.ensures.own c.args.node).0) c.requires.sessions.0,
  subst (λ (o : Option ℕ). IsSome o) (sym c.in_ok-said.ensures.store) c.requires.sessions.1,
)

pub returns-clause-stands : goal.returns-clause-stands
returns-clause-stands g c = λ x letters clocks course tree session up stands own ends live mine.
    let e = g.E.Engine in
    let node = c.args.node in
    let old = c.args.self.now in
    let tried = c.rounds.new.self in
    let some = is_some_there old.machines.items node c.requires.there.0 in
    let one = c.in_ok-said.ensures.stands x letters clocks course tree session up stands own ends live mine in
    let own_then = (c.in_ok-said.ensures.own node).0 ∙ own in
    let ends_then = (c.in_ok-said.ensures.own node).1 ∙ ends in
    let live_then = subst (λ (chain : Chain). LivesIn (last chain) session) (sym one.chain) live in
    let mine_then = session_under (slice_get old.machines.items node) (slice_get tried.machines.items node) session some c.in_ok-said.ensures.session mine in
    let two = c.in_ok-tidy.ensures.stands x letters clocks one.later one.next session up one.stands own_then ends_then live_then mine_then in
    let Final = Stand g.G.Register g.O.Owners g.S.Store e c.tidy.new.self x (letters ++ c.tidy.new.out) clocks in
    turned_still (e.step old.engine) (Stand g.G.Register g.O.Owners g.S.Store e tried x (letters ++ c.rounds.new.out) clocks) Final course tree c.in_ok-said.said.items one
    (subst (λ en. Turned (Some session) (e.step en) Final one.later one.next []) c.in_ok-said.ensures.parts.1 two)

pub returns-clause-waits : goal.returns-clause-waits
returns-clause-waits g c =
    let e = g.E.Engine in
    let node = c.args.node in
    let old = c.args.self.now in
    let tried = c.rounds.new.self in
    let new = c.tidy.new.self in
    let moment = c.args.reading in
    let session = c.args.lease.session in
    let said = c.in_ok-said.said.items in
    let found = there_is old.machines.items node c.requires.there.0 in
    let out = g.S.Store.out_of tried.store node in
    let out_then = g.S.Store.out_of new.store node in
    let Asked : ℕ → Type 0 = λ at. Asking g.G.Register g.O.Owners tried node at in
    let Asks : ℕ → Type 0 = λ at. Asking g.G.Register g.O.Owners new node at in
    let same = if_some (slice_get tried.machines.items node) (λ b. (b.tidy ≡ found.0.tidy) × (b.mark ≡ found.0.mark)) (λ b. b.tidy ≡ found.0.tidy) (λ b is. is.0)
    (of_there (λ (a : Machine). IfSome (slice_get tried.machines.items node) (λ b. (b.tidy ≡ a.tidy) × (b.mark ≡ a.mark))) (slice_get old.machines.items node) found.0 found.1 c.in_ok-said.ensures.tidy) in
    let waits = of_there (λ (a : Machine). IfSome (slice_get tried.machines.items node) (Waits g.O.Owners e tried.engine node moment session said old.owners tried.owners out Asked a)) (slice_get old.machines.items node) found.0 found.1 c.in_ok-said.ensures.waits in
    inr (
      c.done.ensures.no_write c.if-not-done.false,
      was_there (λ (a : Machine). IfSome (slice_get new.machines.items node) (Waits g.O.Owners e new.engine node moment session said old.owners new.owners out_then Asks a)) (slice_get old.machines.items node) found.0 found.1
          (c.in_ok-tidy.ensures.waits said old.owners found.0 same waits),
    )

pub returns-then-not-done-clause-waits : goal.returns-then-not-done-clause-waits
returns-then-not-done-clause-waits g c =
    let out = g.S.Store.out_of c.args.self.now.store c.args.node in
    let some = some_out out (λ none. let wrong = sym c.if-not-done.true ∙ c.done.ensures.out none in absurd cc) in
    inl (subst (λ s. IsSome (g.S.Store.out_of s c.args.node)) (sym c.in_ok-attempted.ensures.parts.2) some, c.in_ok-attempted.ensures.parts.1)

pub returns-clause-answers : goal.returns-clause-answers
returns-clause-answers g c =
    let node = c.args.node in
    let old = c.args.self.now in
    let tried = c.rounds.new.self in
    let less = subst (λ (n : ℕ). node < n) (sym c.in_ok-said.ensures.count) c.requires.there.0 in
    answers_still c.args.reading c.in_ok-said.said.items (slice_get old.machines.items node) (slice_get tried.machines.items node) (slice_get c.tidy.new.self.machines.items node) (is_some_there tried.machines.items node less)
    c.in_ok-said.ensures.answers c.in_ok-tidy.ensures.answers

pub returns-clause-session : goal.returns-clause-session
returns-clause-session g c =
    let node = c.args.node in
    let old = c.args.self.now in
    let tried = c.rounds.new.self in
    let less = subst (λ (n : ℕ). node < n) (sym c.in_ok-said.ensures.count) c.requires.there.0 in
    session_then (slice_get old.machines.items node) (slice_get tried.machines.items node) (slice_get c.tidy.new.self.machines.items node) (is_some_there tried.machines.items node less)
    c.in_ok-said.ensures.session c.in_ok-tidy.ensures.session

pub returns-clause-tidies : goal.returns-clause-tidies
returns-clause-tidies g c =
    let node = c.args.node in
    let old = c.args.self.now in
    let tried = c.rounds.new.self in
    let less = subst (λ (n : ℕ). node < n) (sym c.in_ok-said.ensures.count) c.requires.there.0 in
    goes_there (slice_get old.machines.items node) (slice_get tried.machines.items node) (slice_get c.tidy.new.self.machines.items node) (is_some_there tried.machines.items node less)
    c.in_ok-said.ensures.tidy c.in_ok-tidy.ensures.goes

pub returns-clause-cleans : goal.returns-clause-cleans
returns-clause-cleans g c = λ x letters clocks course tree session up stands own live mine.
    let e = g.E.Engine in
    let node = c.args.node in
    let old = c.args.self.now in
    let tried = c.rounds.new.self in
    let new = c.tidy.new.self in
    let some = is_some_there old.machines.items node c.requires.there.0 in
    let less = subst (λ (n : ℕ). node < n) (sym c.in_ok-said.ensures.count) c.requires.there.0 in
    let some_then = is_some_there tried.machines.items node less in
    let own_then = (c.in_ok-tidy.ensures.own node).0 ∙ (c.in_ok-said.ensures.own node).0 ∙ own in
    let mine_then = session_under (slice_get old.machines.items node) (slice_get tried.machines.items node) session some c.in_ok-said.ensures.session mine in
    let mine_last = session_under (slice_get tried.machines.items node) (slice_get new.machines.items node) session some_then c.in_ok-tidy.ensures.session mine_then in
    let cleaned = c.in_ok-tidy.ensures.cleans x letters clocks course tree session up stands own_then live mine_last in
    let areas = ap (λ m. m.areas) c.in_ok-said.ensures.parts.2 in
    cleans_then (e.is_clean old.engine course.truth) (g.S.Store.made old.store).areas (slice_get old.machines.items node) (slice_get tried.machines.items node) (slice_get new.machines.items node) some_then (tidy_left (slice_get old.machines.items node) (slice_get tried.machines.items node) c.in_ok-said.ensures.tidy)
    (subst (λ en. IfSome (slice_get tried.machines.items node) (λ a. IfSome (slice_get new.machines.items node) (Cleans (e.is_clean en course.truth) (g.S.Store.made old.store).areas a))) c.in_ok-said.ensures.parts.1
    (subst (λ (n : ℕ). IfSome (slice_get tried.machines.items node) (λ a. IfSome (slice_get new.machines.items node) (Cleans (e.is_clean tried.engine course.truth) n a))) areas cleaned))

pub returns-clause-held_up : goal.returns-clause-held_up
returns-clause-held_up g c = λ x letters clocks course tree session up stands own ends live mine.
    let node = c.args.node in
    let old = c.args.self.now in
    let tried = c.rounds.new.self in
    let some = is_some_there old.machines.items node c.requires.there.0 in
    let one = c.in_ok-said.ensures.stands x letters clocks course tree session up stands own ends live mine in
    let own_then = (c.in_ok-said.ensures.own node).0 ∙ own in
    let ends_then = (c.in_ok-said.ensures.own node).1 ∙ ends in
    let live_then = subst (λ (chain : Chain). LivesIn (last chain) session) (sym one.chain) live in
    let mine_then = session_under (slice_get old.machines.items node) (slice_get tried.machines.items node) session some c.in_ok-said.ensures.session mine in
    c.in_ok-tidy.ensures.held_up x letters clocks one.later one.next session up one.stands own_then live_then mine_then

pub returns-then-not-done-clause-held_up : goal.returns-then-not-done-clause-held_up
returns-then-not-done-clause-held_up g c = λ x letters clocks course tree session up stands own ends live mine.
    let node = c.args.node in
    let old = c.args.self.now in
    let new = c.attempt.new.self in
    let out = g.S.Store.out_of new.store node in
    let Asks : ℕ → Type 0 = λ at. Asking g.G.Register g.O.Owners new node at in
    let some = some_out (g.S.Store.out_of old.store node) (λ none. let wrong = sym c.if-not-done.true ∙ c.done.ensures.out none in absurd cc) in
    if_all (slice_get new.machines.items node) (IsHeldUp g.E.Engine new.engine out Asks)
    (λ machine. held_by_write g.E.Engine new.engine out Asks machine (subst (λ s. IsSome (g.S.Store.out_of s node)) (sym c.in_ok-attempted.ensures.parts.2) some))

pub returns-clause-own : goal.returns-clause-own
returns-clause-own g c = λ other.
    let one = c.in_ok-said.ensures.own other in
    let two = c.in_ok-tidy.ensures.own other in
    (two.0 ∙ one.0, two.1 ∙ one.1)

pub returns-clause-elsewhere : goal.returns-clause-elsewhere
returns-clause-elsewhere g c = λ other ne.
    let one = c.in_ok-said.ensures.elsewhere other ne in
    let two = c.in_ok-tidy.ensures.elsewhere other ne in
    (two.0 ∙ one.0, two.1 ∙ one.1, two.2 ∙ one.2)
