use Rattle.std.proofs.Common.{◌≡◌, ◌∙◌, ℕ, ◌<◌, List, ◌∷◌, Contains, length, Option, IfSome, IsSome, sym, subst, arith, rules}
use Rattle.std.specs.Prelude.{slice_get}
use Rattle.std.specs.List.{AllByRecursion}
use Rattle.std.proofs.lemmas.Result.{on_ok_weaker}
use Rattle.bx_base.specs.declared.names.Mode.{Mode}
use Rattle.bx_facts.proofs.Lists.{behind, front}
use Rattle.bx_facts.specs.Chains.{Chain, LivesIn, last}
use Rattle.bx_node_events.proofs.Works.{keeps_on}
use Rattle.bx_nodes.specs.Asks.{KeepsUnwanted}
use Rattle.bx_places.specs.Places.{IsBlock}
use Rattle.bx_nodes.specs.Giving.{AreWanted}
use Rattle.bx_nodes.specs.Giving.AreWanted.{NoMore}
use Rattle.bx_nodes.proofs.Giving.{wanted_as, wanted_then}
use Rattle.bx_nodes.specs.Standing.{Asking}
use Rattle.bx_nodes.proofs.Machines.{both_ok, is_some_there, only_both, under_then}
use Rattle.bx_nodes.proofs.Unwanted.{unwanted_more}
use Rattle.bx_nodes.proofs.nodes.Nodes.+ask_each.Goals as goal

pub returns-clause-stands : goal.returns-clause-stands
returns-clause-stands g t c = λ x letters clocks course tree session up stands own live mine.
    let one = c.in_ok-ask.ensures.stands x letters clocks course tree session up stands own live mine in
    let node = c.args.node in
    let items = c.args.self.now.machines.items in
    let still = under_then (slice_get items node) (slice_get c.ask.new.self.machines.items node) session (is_some_there items node c.requires.there.0) c.in_ok-ask.ensures.only mine in
    on_ok_weaker c.ask_each.result (λ two. record { later = two.later; chain = two.chain ∙ one.chain; knew = two.knew ∙ one.knew; logs = two.logs ∙ one.logs; works = keeps_on _ _ _ one.works two.works; stands = two.stands })
    (c.ask_each.ensures.stands x letters clocks one.later tree session up one.stands ((c.in_ok-ask.ensures.own node).0 ∙ own) (subst (λ (chain : Chain). LivesIn (last chain) session) (sym one.chain) live) still)

pub returns-clause-only : goal.returns-clause-only
returns-clause-only g t c =
    let node = c.args.node in
    let items = c.args.self.now.machines.items in
    let middle = c.ask.new.self.machines.items in
    on_ok_weaker c.ask_each.result
    (λ two. only_both (slice_get items node) (slice_get middle node) (slice_get c.ask_each.new.self.machines.items node) (is_some_there middle node (subst (λ (n : ℕ). node < n) (sym c.in_ok-ask.ensures.count) c.requires.there.0))
    c.in_ok-ask.ensures.only two)
    c.ask_each.ensures.only

pub returns-clause-keeps : goal.returns-clause-keeps
returns-clause-keeps g t c =
    let node = c.args.node in
    let items = c.args.self.now.machines.items in
    let middle = c.ask.new.self.machines.items in
    let last = c.ask_each.new.self.machines.items in
    on_ok_weaker c.ask_each.result
    (λ keeps. subst (λ (wants : List (ℕ × Mode)). IfSome (slice_get items node) (λ a. IfSome (slice_get last node) (KeepsUnwanted wants a))) (sym c.in-Some.ensures.cases.0)
    (unwanted_more c.in-Some.first.now c.in-Some.rest.now (slice_get items node) (slice_get middle node) (slice_get last node)
    (is_some_there middle node (subst (λ (n : ℕ). node < n) (sym c.in_ok-ask.ensures.count) c.requires.there.0)) c.in_ok-ask.ensures.keeps keeps))
    c.ask_each.ensures.keeps

pub returns-clause-asking : goal.returns-clause-asking
returns-clause-asking g t c =
    let Asks : ℕ → Type 0 = λ at. Asking g.G.Register g.O.Owners c.ask_each.new.self c.args.node at in
    on_ok_weaker c.ask_each.result
    (λ all. subst (λ (wants : List (ℕ × Mode)). AllByRecursion (λ wanted. Asks wanted.0) wants) (sym c.in-Some.ensures.cases.0) (all.0, all.1))
    (both_ok _ _ c.ask_each.result (c.ask_each.ensures.asks_on c.in-Some.first.now.0 c.in_ok-ask.ensures.asking) c.ask_each.ensures.asking)

pub ask_each-requires : goal.ask_each-requires
ask_each-requires g t c κs within =
    let rest = c.in-Some.rest.now in
    let less : length rest < length c.args.wants.now = subst (λ (l : List (ℕ × Mode)). length rest < length l) (sym c.in-Some.ensures.cases.0) (omega arith) in
    let node = c.args.node in
    let old = c.args.self.now in
    let new = c.ask.new.self in
    let ensures = c.in_ok-ask.ensures in
    let there : (node < length new.machines.items) × (node < g.G.Register.nodes new.register) = (subst (λ (n : ℕ). node < n) (sym ensures.count) c.requires.there.0, subst (λ r. node < g.G.Register.nodes r) (sym ensures.parts.0) c.requires.there.1) in
    let sessions : IsSome (g.O.Owners.own new.owners node) × IsSome (g.S.Store.own new.store node) = (
      subst (λ (s : Option ℕ). IsSome s) (sym (ensures.own node).0) c.requires.sessions.0,
      subst (λ (s : Option ℕ). IsSome s) (sym (ensures.own node).2) c.requires.sessions.1,
    ) in
    let none = (ensures.own node).3 ∙ c.requires.none_out in
    let few = subst (λ (l : List (ℕ × Mode)). AllByRecursion (λ wanted. IsBlock (g.S.Store.made old.store).areas wanted.0) l) c.in-Some.ensures.cases.0 c.requires.blocks in
    let blocks : AllByRecursion (λ wanted. IsBlock (g.S.Store.made new.store).areas wanted.0) rest = subst (λ m. AllByRecursion (λ wanted. IsBlock m.areas wanted.0) rest) (sym ensures.parts.2) few.1 in
    search (rules, less, there, sessions, none, blocks)

pub returns-in_default-clause-owners : goal.returns-in_default-clause-owners
returns-in_default-clause-owners g t c = NoMore c.args.self.now.owners

pub returns-clause-owners : goal.returns-clause-owners
returns-clause-owners g t c =
    let node = c.args.node in
    let first = c.in-Some.first.now in
    let rest = c.in-Some.rest.now in
    let old = c.args.self.now.owners in
    let middle = c.ask.new.self.owners in
    let new = c.ask_each.new.self.owners in
    let One : ℕ → Mode → Type 0 = λ at mode. Contains (first ∷ rest) (at, mode) in
    let one = wanted_as g.O.Owners node (λ at mode. (at, mode) ≡ first) One (λ at mode is. subst (λ (x : ℕ × Mode). Contains (first ∷ rest) x) (sym is) (front first rest)) old middle c.in_ok-ask.ensures.owners in
    on_ok_weaker c.ask_each.result
    (λ more. subst (λ (wants : List (ℕ × Mode)). AreWanted g.O.Owners node (λ at mode. Contains wants (at, mode)) old new) (sym c.in-Some.ensures.cases.0)
    (wanted_then g.O.Owners node One old middle new one (wanted_as g.O.Owners node (λ at mode. Contains rest (at, mode)) One (λ at mode has. behind first rest (at, mode) has) middle new more)))
    c.ask_each.ensures.owners
