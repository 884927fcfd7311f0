use Rattle.std.proofs.Common.{◌≡◌, ◌≢◌, ◌∙◌, inl, inr, ℕ, ◌<◌, false, Option, Some, IsSome, refl, sym, ap, subst}
use Rattle.std.specs.Prelude.{OnOk, is_some, slice_get}
use Rattle.std.proofs.lemmas.Bool.{cases_eq}
use Rattle.std.proofs.lemmas.Result.{on_ok_weaker}
use Rattle.bx_base.specs.declared.names.Actor.TheVariants.{Node}
use Rattle.bx_base.specs.declared.names.Mode.{Mode}
use Rattle.bx_facts.specs.Chains.{Chain, LivesIn, last}
use Rattle.bx_facts.specs.Holds.{Hold}
use Rattle.bx_node_cache.specs.Kept.{kept_in}
use Rattle.bx_node_machines.specs.Machines.{home_of}
use Rattle.bx_node_steps.specs.Changing.{LetsGo}
use Rattle.bx_node_steps.specs.declared.machine.Machine.{Machine}
use Rattle.bx_node_events.proofs.Works.{keeps_on}
use Rattle.bx_nodes.specs.Asks.{Gets, IsAsking, IsWanted, OnlyHolds, is_weaker}
use Rattle.bx_nodes.specs.Asks.IsAsking.{Requested}
use Rattle.bx_nodes.specs.Giving.{AreWanted}
use Rattle.bx_nodes.specs.Giving.AreWanted.{NoMore, OneMore}
use Rattle.bx_nodes.proofs.Giving.{wanted_none}
use Rattle.bx_nodes.proofs.Machines.{if_all, if_between, if_both, if_self, is_some_there, none_of, ok_so, only_both, only_same, under_then}
use Rattle.bx_nodes.proofs.Wanting.{asking_by, gets_as, gets_kept, goes_only, not_weaker}
use Rattle.bx_nodes.specs.Standing.{Asking}
use Rattle.bx_nodes.proofs.nodes.Nodes.ask.Goals as goal

pub returns-then-is_some-clause-asking : goal.returns-then-is_some-clause-asking
returns-then-is_some-clause-asking g c =
    let node = c.args.node in
    let at = c.args.wanted.0 in
    let mode = c.args.wanted.1 in
    let items = c.args.self.now.machines.items in
    let found = slice_get items node in
    let owners = c.args.self.now.owners in
    let store = c.args.self.now.store in
    let hold = g.O.Owners.hold owners node at in
    let knows = (g.G.Register.knows c.args.self.now.register (Node node)).index in
    let request = g.O.Owners.request owners node at in
    let some : IsSome request = subst (λ r. IsSome r) c.wanted.ensures (sym c.is_some.ensures ∙ c.if-is_some.true) in
    if_all found (λ (a : Machine). IsAsking request hold knows a.fetch (g.O.Owners.is_spent owners node)) (λ a. Requested some)

pub returns-then-is_some-clause-keeps : goal.returns-then-is_some-clause-keeps
returns-then-is_some-clause-keeps g c = if_self (slice_get c.args.self.now.machines.items c.args.node) (λ (a b : Machine). (at : ℕ) → at ≢ c.args.wanted.0 → kept_in b.cache.kept at ≡ kept_in a.cache.kept at) (λ a at ne. refl)

pub returns-then-is_some-clause-only : goal.returns-then-is_some-clause-only
returns-then-is_some-clause-only g c = only_same (slice_get c.args.self.now.machines.items c.args.node)

pub returns-then-is_weaker-clause-stands : goal.returns-then-is_weaker-clause-stands
returns-then-is_weaker-clause-stands g c = λ x letters clocks course tree session up stands own live mine.
    let node = c.args.node in
    let at = c.args.wanted.0 in
    let mode = c.args.wanted.1 in
    let items = c.args.self.now.machines.items in
    let found = slice_get items node in
    let owners = c.args.self.now.owners in
    let store = c.args.self.now.store in
    let hold = g.O.Owners.hold owners node at in
    let knows = (g.G.Register.knows c.args.self.now.register (Node node)).index in
    let middle = c.want.new.self in
    let between = slice_get middle.machines.items node in
    let some = is_some_there items node c.requires.there.0 in
    let some_then = is_some_there middle.machines.items node (subst (λ (n : ℕ). node < n) (sym c.in_ok-want.ensures.count) c.requires.there.0) in
    let one = c.in_ok-want.ensures.stands x letters clocks course tree session up stands own live mine in
    let only = if_both found between (LetsGo at) OnlyHolds (λ a b goes. goes_only at a b goes) c.in_ok-want.ensures.goes in
    on_ok_weaker c.get.result (λ two. record { later = two.later; chain = two.chain ∙ one.chain; knew = two.knew ∙ one.knew; logs = two.logs ∙ one.logs; works = keeps_on _ _ _ one.works two.works; stands = two.stands })
    (c.get.ensures.stands x letters clocks one.later tree session up one.stands ((c.in_ok-want.ensures.own node).0 ∙ own) (subst (λ (chain : Chain). LivesIn (last chain) session) (sym one.chain) live)
    (under_then found between session some only mine))

pub returns-then-is_weaker-clause-wants : goal.returns-then-is_weaker-clause-wants
returns-then-is_weaker-clause-wants g c = λ none weaker.
    let node = c.args.node in
    let at = c.args.wanted.0 in
    let mode = c.args.wanted.1 in
    let items = c.args.self.now.machines.items in
    let found = slice_get items node in
    let owners = c.args.self.now.owners in
    let store = c.args.self.now.store in
    let hold = g.O.Owners.hold owners node at in
    let knows = (g.G.Register.knows c.args.self.now.register (Node node)).index in
    let middle = c.want.new.self in
    let between = slice_get middle.machines.items node in
    let some = is_some_there items node c.requires.there.0 in
    let some_then = is_some_there middle.machines.items node (subst (λ (n : ℕ). node < n) (sym c.in_ok-want.ensures.count) c.requires.there.0) in
    let new = c.get.new.self in
    let parts = c.in_ok-want.ensures.parts in
    let same = c.get.ensures.parts.2 in
    on_ok_weaker c.get.result
    (λ gets. (
      subst (λ o. g.O.Owners.grants owners node at mode o) (sym same) c.in_ok-want.ensures.wants.0,
      subst (λ o. IsWanted (g.O.Owners.request o node at) (g.O.Owners.hold o node at) mode (g.O.Owners.is_spent o node)) (sym same) c.in_ok-want.ensures.wants.1,
      if_between found between (slice_get new.machines.items node) (LetsGo at)
          (Gets (g.O.Owners.hold middle.owners node at) (g.G.Register.knows middle.register (Node node)).index at (g.S.Store.asked new.store node ≡ Some (home_of (g.S.Store.made middle.store).devices at)) ((new.store ≡ middle.store) × (c.get.new.out ≡ c.want.new.out)))
          (λ (a b : Machine). (m : Machine) × LetsGo at a m × Gets (g.O.Owners.hold new.owners node at) knows at (g.S.Store.asked new.store node ≡ Some (home_of (g.S.Store.made store).devices at)) (new.store ≡ store) m b) some_then
          (λ a b d goes got. (
            b,
            goes,
            gets_as (g.O.Owners.hold middle.owners node at) (g.O.Owners.hold new.owners node at) (g.G.Register.knows middle.register (Node node)).index knows at
                (g.S.Store.asked new.store node ≡ Some (home_of (g.S.Store.made middle.store).devices at)) (g.S.Store.asked new.store node ≡ Some (home_of (g.S.Store.made store).devices at))
                ((new.store ≡ middle.store) × (c.get.new.out ≡ c.want.new.out)) (new.store ≡ store) b d
                (ap (λ o. g.O.Owners.hold o node at) same) (sym (ap (λ r. (g.G.Register.knows r (Node node)).index) parts.0))
                (λ is. is ∙ ap (λ s. Some (home_of (g.S.Store.made s).devices at)) parts.2) (λ still. still.0 ∙ parts.2) got,
          ))
          c.in_ok-want.ensures.goes gets,
    ))
    c.get.ensures.gets

pub returns-then-is_weaker-clause-asking : goal.returns-then-is_weaker-clause-asking
returns-then-is_weaker-clause-asking g c =
    let node = c.args.node in
    let at = c.args.wanted.0 in
    let mode = c.args.wanted.1 in
    let items = c.args.self.now.machines.items in
    let found = slice_get items node in
    let owners = c.args.self.now.owners in
    let store = c.args.self.now.store in
    let hold = g.O.Owners.hold owners node at in
    let knows = (g.G.Register.knows c.args.self.now.register (Node node)).index in
    let middle = c.want.new.self in
    let between = slice_get middle.machines.items node in
    let some = is_some_there items node c.requires.there.0 in
    let some_then = is_some_there middle.machines.items node (subst (λ (n : ℕ). node < n) (sym c.in_ok-want.ensures.count) c.requires.there.0) in
    let o = middle.owners in
    asking_by (g.O.Owners.request o node at) (g.O.Owners.hold o node at) mode (g.G.Register.knows middle.register (Node node)).index (g.O.Owners.is_spent o node) between c.get.result _ c.in_ok-want.ensures.wants.1
    (λ requested. c.get.ensures.asks_on at requested) (λ is_held. c.get.ensures.asking is_held)

pub returns-then-is_weaker-clause-asks_on : goal.returns-then-is_weaker-clause-asks_on
returns-then-is_weaker-clause-asks_on g c = λ other asking. elim (cases_eq other c.args.wanted.0) [
  | inl same ↦ subst (λ (n : ℕ). OnOk c.get.result (Asking g.G.Register g.O.Owners c.get.new.self c.args.node n)) (sym same) (returns-then-is_weaker-clause-asking g c)
  | inr ne ↦ c.get.ensures.asks_on other (c.in_ok-want.ensures.asks_on other ne asking)
]

pub returns-then-is_weaker-clause-keeps : goal.returns-then-is_weaker-clause-keeps
returns-then-is_weaker-clause-keeps g c =
    let node = c.args.node in
    let at = c.args.wanted.0 in
    let mode = c.args.wanted.1 in
    let items = c.args.self.now.machines.items in
    let found = slice_get items node in
    let owners = c.args.self.now.owners in
    let store = c.args.self.now.store in
    let hold = g.O.Owners.hold owners node at in
    let knows = (g.G.Register.knows c.args.self.now.register (Node node)).index in
    let middle = c.want.new.self in
    let between = slice_get middle.machines.items node in
    let some = is_some_there items node c.requires.there.0 in
    let some_then = is_some_there middle.machines.items node (subst (λ (n : ℕ). node < n) (sym c.in_ok-want.ensures.count) c.requires.there.0) in
    let new = c.get.new.self in
    on_ok_weaker c.get.result
    (λ gets. if_between found between (slice_get new.machines.items node) (LetsGo at)
    (Gets (g.O.Owners.hold middle.owners node at) (g.G.Register.knows middle.register (Node node)).index at (g.S.Store.asked new.store node ≡ Some (home_of (g.S.Store.made middle.store).devices at)) ((new.store ≡ middle.store) × (c.get.new.out ≡ c.want.new.out)))
    (λ (a b : Machine). (other : ℕ) → other ≢ at → kept_in b.cache.kept other ≡ kept_in a.cache.kept other) some_then
    (λ a b d goes got other ne. gets_kept _ _ at other _ _ b d ne got ∙ goes.kept.others other ne) c.in_ok-want.ensures.goes gets)
    c.get.ensures.gets

pub returns-then-is_weaker-clause-only : goal.returns-then-is_weaker-clause-only
returns-then-is_weaker-clause-only g c =
    let node = c.args.node in
    let at = c.args.wanted.0 in
    let mode = c.args.wanted.1 in
    let items = c.args.self.now.machines.items in
    let found = slice_get items node in
    let owners = c.args.self.now.owners in
    let store = c.args.self.now.store in
    let hold = g.O.Owners.hold owners node at in
    let knows = (g.G.Register.knows c.args.self.now.register (Node node)).index in
    let middle = c.want.new.self in
    let between = slice_get middle.machines.items node in
    let some = is_some_there items node c.requires.there.0 in
    let some_then = is_some_there middle.machines.items node (subst (λ (n : ℕ). node < n) (sym c.in_ok-want.ensures.count) c.requires.there.0) in
    let only = if_both found between (LetsGo at) OnlyHolds (λ a b goes. goes_only at a b goes) c.in_ok-want.ensures.goes in
    on_ok_weaker c.get.result (λ later. only_both found between (slice_get c.get.new.self.machines.items node) some_then only later) c.get.ensures.only

pub returns-clause-asking : goal.returns-clause-asking
returns-clause-asking g c = c.get-2.ensures.asking (not_weaker (g.O.Owners.hold c.args.self.now.owners c.args.node c.args.wanted.0) c.args.wanted.1 (ap (λ (h : Option Hold). is_weaker h c.args.wanted.1) (sym c.holds.ensures) ∙ sym c.is_weaker.ensures ∙ c.if-is_weaker.false))

pub returns-clause-keeps : goal.returns-clause-keeps
returns-clause-keeps g c =
    let node = c.args.node in
    let at = c.args.wanted.0 in
    let mode = c.args.wanted.1 in
    let items = c.args.self.now.machines.items in
    let found = slice_get items node in
    let owners = c.args.self.now.owners in
    let store = c.args.self.now.store in
    let hold = g.O.Owners.hold owners node at in
    let knows = (g.G.Register.knows c.args.self.now.register (Node node)).index in
    let new = c.get-2.new.self in
    on_ok_weaker c.get-2.result
    (λ gets. if_both found (slice_get new.machines.items node) (Gets hold knows at (g.S.Store.asked new.store node ≡ Some (home_of (g.S.Store.made store).devices at)) ((new.store ≡ store) × (c.get-2.new.out ≡ c.args.out.now)))
    (λ (a b : Machine). (other : ℕ) → other ≢ at → kept_in b.cache.kept other ≡ kept_in a.cache.kept other) (λ a b got other ne. gets_kept _ _ at other _ _ a b ne got) gets)
    c.get-2.ensures.gets

pub returns-then-is_some-clause-owners : goal.returns-then-is_some-clause-owners
returns-then-is_some-clause-owners g c = NoMore c.args.self.now.owners

pub returns-then-is_weaker-clause-owners : goal.returns-then-is_weaker-clause-owners
returns-then-is_weaker-clause-owners g c =
    let node = c.args.node in
    let at = c.args.wanted.0 in
    let mode = c.args.wanted.1 in
    let owners = c.args.self.now.owners in
    let middle = c.want.new.self.owners in
    let One : ℕ → Mode → Type 0 = λ other way. (other, way) ≡ c.args.wanted in
    let none = none_of (g.O.Owners.request owners node at) (subst (λ r. is_some r ≡ false) c.wanted.ensures (sym c.is_some.ensures ∙ c.if-is_some.false)) in
    let weaker = ap (λ (h : Option Hold). is_weaker h mode) (sym c.holds.ensures) ∙ sym c.is_weaker.ensures ∙ c.if-is_weaker.true in
    ok_so _ c.get.result (subst (λ w. AreWanted g.O.Owners node One owners w) (sym c.get.ensures.parts.2)
    (OneMore at mode owners middle middle refl none weaker c.in_ok-want.ensures.wants.0 c.in_ok-want.ensures.asks (NoMore middle)))

pub returns-clause-owners : goal.returns-clause-owners
returns-clause-owners g c =
    let One : ℕ → Mode → Type 0 = λ other way. (other, way) ≡ c.args.wanted in
    ok_so _ c.get-2.result (wanted_none g.O.Owners c.args.node One c.args.self.now.owners c.get-2.new.self.owners c.get-2.ensures.parts.2)
