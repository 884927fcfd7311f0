use Rattle.std.proofs.Common.{◌≡◌, ◌∙◌, ℕ, ◌<◌, ◌++◌, Option, Some, None, IfSome, IsSome, refl, sym, ap, subst}
use Rattle.std.specs.Prelude.{slice_get}
use Rattle.std.proofs.lemmas.Result.{on_ok_weaker}
use Rattle.bx_base.specs.declared.names.Actor.TheVariants.{Node}
use Rattle.bx_facts.specs.Chains.{Chain, LivesIn, last}
use Rattle.bx_facts.specs.Holds.{Hold}
use Rattle.bx_node_cache.specs.Kept.{kept_in}
use Rattle.bx_node_machines.specs.Machines.{home_of}
use Rattle.bx_node_steps.specs.Changing.{LetsGo, left_fetch}
use Rattle.bx_node_steps.specs.declared.machine.Fetch.{Fetch}
use Rattle.bx_node_steps.specs.declared.machine.Fetch.TheVariants.{Block}
use Rattle.bx_node_steps.specs.declared.machine.Machine.{Machine}
use Rattle.bx_node_events.proofs.Works.{keeps_on}
use Rattle.bx_nodes.specs.Asks.{Gets, IsAsking, MayRead, OnlyHolds}
use Rattle.bx_nodes.specs.Asks.Gets.{NotHeld, Reads, Waits}
use Rattle.bx_nodes.specs.Asks.IsAsking.{Reading}
use Rattle.bx_nodes.proofs.Machines.{if_between, if_both, if_new, if_same, if_self, if_some, if_then, if_two, is_some_there, only_both, only_same, under_then}
use Rattle.bx_nodes.proofs.Wanting.{cannot_read, goes_only}
use Rattle.bx_places.specs.Places.{IsBlock}
use Rattle.bx_nodes.proofs.nodes.Nodes.get.Goals as goal

pub returns-in_default-clause-gets : goal.returns-in_default-clause-gets
returns-in_default-clause-gets g c =
    let node = c.args.node in
    let at = c.args.at in
    let items = c.args.self.now.machines.items in
    let found = slice_get items node in
    let owners = c.args.self.now.owners in
    let store = c.args.self.now.store in
    let hold = g.O.Owners.hold owners node at in
    let knows = (g.G.Register.knows c.args.self.now.register (Node node)).index in
    if_self found (Gets hold knows at (g.S.Store.asked store node ≡ Some (home_of (g.S.Store.made store).devices at)) ((store ≡ store) × (c.args.out.now ≡ c.args.out.now))) (λ a. NotHeld (sym c.in_default.ensures) (refl, refl) refl)

pub returns-in_default-clause-asking : goal.returns-in_default-clause-asking
returns-in_default-clause-asking g c = λ some. absurd (let h = subst (λ (h : Option Hold). IsSome h) (sym c.in_default.ensures) some in cc)

pub returns-in_default-clause-only : goal.returns-in_default-clause-only
returns-in_default-clause-only g c = only_same (slice_get c.args.self.now.machines.items c.args.node)

pub returns-then-not-may_read-clause-gets : goal.returns-then-not-may_read-clause-gets
returns-then-not-may_read-clause-gets g c =
    let node = c.args.node in
    let at = c.args.at in
    let items = c.args.self.now.machines.items in
    let found = slice_get items node in
    let owners = c.args.self.now.owners in
    let store = c.args.self.now.store in
    let hold = g.O.Owners.hold owners node at in
    let knows = (g.G.Register.knows c.args.self.now.register (Node node)).index in
    let its = c.in-Some.hold in
    if_same found (λ (a : Machine). MayRead a its.1 knows → ⊥) (Gets hold knows at (g.S.Store.asked store node ≡ Some (home_of (g.S.Store.made store).devices at)) ((store ≡ store) × (c.args.out.now ≡ c.args.out.now))) (λ a cannot. Waits its.0 its.1 (sym c.in-Some.ensures) cannot (refl, refl) refl) (c.may_read.ensures.may_not c.if-not-may_read.true)

pub returns-then-not-may_read-clause-asking : goal.returns-then-not-may_read-clause-asking
returns-then-not-may_read-clause-asking g c = λ is_held.
    let node = c.args.node in
    let at = c.args.at in
    let items = c.args.self.now.machines.items in
    let found = slice_get items node in
    let owners = c.args.self.now.owners in
    let store = c.args.self.now.store in
    let hold = g.O.Owners.hold owners node at in
    let knows = (g.G.Register.knows c.args.self.now.register (Node node)).index in
    let its = c.in-Some.hold in
    let request = g.O.Owners.request owners node at in
    let IsSpent = g.O.Owners.is_spent owners node in
    if_some found (λ (a : Machine). MayRead a its.1 knows → ⊥) (λ (a : Machine). IsAsking request hold knows a.fetch IsSpent) (λ a cannot. cannot_read request hold its.0 its.1 knows a IsSpent (sym c.in-Some.ensures) cannot)
    (c.may_read.ensures.may_not c.if-not-may_read.true)

pub returns-then-not-may_read-clause-only : goal.returns-then-not-may_read-clause-only
returns-then-not-may_read-clause-only g c = only_same (slice_get c.args.self.now.machines.items c.args.node)

pub read-requires-clause-session : goal.read-requires-clause-session
read-requires-clause-session g c = subst (λ s. IsSome (g.S.Store.own s c.args.node)) (sym c.let_go.ensures.parts.3) c.requires.session

pub read-requires-clause-is_block : goal.read-requires-clause-is_block
read-requires-clause-is_block g c = subst (λ s. IsBlock (g.S.Store.made s).areas c.args.at) (sym c.let_go.ensures.parts.3) c.requires.is_block

pub read-requires-clause-hold : goal.read-requires-clause-hold
read-requires-clause-hold g c = ap (λ o. g.O.Owners.hold o c.args.node c.args.at) c.let_go.ensures.parts.2 ∙ sym c.in-Some.ensures

pub read-requires-clause-none : goal.read-requires-clause-none
read-requires-clause-none g c =
    let node = c.args.node in
    let at = c.args.at in
    let items = c.args.self.now.machines.items in
    let found = slice_get items node in
    let owners = c.args.self.now.owners in
    let store = c.args.self.now.store in
    let hold = g.O.Owners.hold owners node at in
    let knows = (g.G.Register.knows c.args.self.now.register (Node node)).index in
    let middle = c.let_go.new.self in
    let between = slice_get middle.machines.items node in
    let some = is_some_there items node c.requires.there.0 in
    let some_then = is_some_there middle.machines.items node (subst (λ (n : ℕ). node < n) (sym c.let_go.ensures.count) c.requires.there.0) in
    if_new found between (LetsGo at) (λ (b : Machine). kept_in b.cache.kept at ≡ None) some (λ a b goes. goes.kept.here) c.let_go.ensures.goes

pub read-requires-clause-may : goal.read-requires-clause-may
read-requires-clause-may g c =
    let node = c.args.node in
    let at = c.args.at in
    let items = c.args.self.now.machines.items in
    let found = slice_get items node in
    let owners = c.args.self.now.owners in
    let store = c.args.self.now.store in
    let hold = g.O.Owners.hold owners node at in
    let knows = (g.G.Register.knows c.args.self.now.register (Node node)).index in
    let middle = c.let_go.new.self in
    let between = slice_get middle.machines.items node in
    let some = is_some_there items node c.requires.there.0 in
    let some_then = is_some_there middle.machines.items node (subst (λ (n : ℕ). node < n) (sym c.let_go.ensures.count) c.requires.there.0) in
    let its = c.in-Some.hold in
    let may = if_then found between (λ (a : Machine). MayRead a its.1 knows) (LetsGo at) (λ (b : Machine). MayRead b its.1 knows) some
    (λ a b may goes. record { reads_none = ap (λ (m : Machine). m.fetch) goes.only ∙ ap (λ (f : Fetch). left_fetch at f) may.reads_none; known = may.known }) (c.may_read.ensures.may c.if-not-may_read.false) c.let_go.ensures.goes in
    subst (λ r. IfSome between (λ machine. MayRead machine its.1 (g.G.Register.knows r (Node node)).index)) (sym c.let_go.ensures.parts.0) may

pub returns-clause-stands : goal.returns-clause-stands
returns-clause-stands g c = λ x letters clocks course tree session up stands own live mine.
    let node = c.args.node in
    let at = c.args.at in
    let items = c.args.self.now.machines.items in
    let found = slice_get items node in
    let owners = c.args.self.now.owners in
    let store = c.args.self.now.store in
    let hold = g.O.Owners.hold owners node at in
    let knows = (g.G.Register.knows c.args.self.now.register (Node node)).index in
    let middle = c.let_go.new.self in
    let between = slice_get middle.machines.items node in
    let some = is_some_there items node c.requires.there.0 in
    let some_then = is_some_there middle.machines.items node (subst (λ (n : ℕ). node < n) (sym c.let_go.ensures.count) c.requires.there.0) in
    let one = c.let_go.ensures.stands x (letters ++ c.args.out.now) clocks course tree session up stands own live mine in
    let only = if_both found between (LetsGo at) OnlyHolds (λ a b goes. goes_only at a b goes) c.let_go.ensures.goes in
    on_ok_weaker c.read.result (λ two. record { later = two.later; chain = two.chain ∙ one.chain; knew = two.knew ∙ one.knew; logs = two.logs ∙ one.logs; works = keeps_on _ _ _ one.works two.works; stands = two.stands })
    (c.read.ensures.stands x letters clocks one.later tree session up one.stands (ap (λ o. g.O.Owners.own o node) c.let_go.ensures.parts.2 ∙ own) (subst (λ (chain : Chain). LivesIn (last chain) session) (sym one.chain) live)
    (under_then found between session some only mine))

pub returns-clause-gets : goal.returns-clause-gets
returns-clause-gets g c =
    let node = c.args.node in
    let at = c.args.at in
    let items = c.args.self.now.machines.items in
    let found = slice_get items node in
    let owners = c.args.self.now.owners in
    let store = c.args.self.now.store in
    let hold = g.O.Owners.hold owners node at in
    let knows = (g.G.Register.knows c.args.self.now.register (Node node)).index in
    let middle = c.let_go.new.self in
    let between = slice_get middle.machines.items node in
    let some = is_some_there items node c.requires.there.0 in
    let some_then = is_some_there middle.machines.items node (subst (λ (n : ℕ). node < n) (sym c.let_go.ensures.count) c.requires.there.0) in
    let its = c.in-Some.hold in
    let new = c.read.new.self in
    let both = if_two found between (λ (a : Machine). MayRead a its.1 knows) (LetsGo at) (λ (a b : Machine). MayRead a its.1 knows × LetsGo at a b) (λ a b may goes. (may, goes)) (c.may_read.ensures.may c.if-not-may_read.false) c.let_go.ensures.goes in
    on_ok_weaker c.read.result
    (λ reads. if_between found between (slice_get new.machines.items node) (λ (a b : Machine). MayRead a its.1 knows × LetsGo at a b) (λ (a b : Machine). b ≡ record a { fetch = Block at its.0 })
    (Gets hold knows at (g.S.Store.asked new.store node ≡ Some (home_of (g.S.Store.made store).devices at)) ((new.store ≡ store) × (c.read.new.out ≡ c.args.out.now))) some_then
    (λ a b d p q. Reads its.0 its.1 (sym c.in-Some.ensures) p.0 (record { middle = b; goes = p.1; reads = q }) (reads.1 ∙ ap (λ s. Some (home_of (g.S.Store.made s).devices at)) c.let_go.ensures.parts.3)) both reads.0)
    c.read.ensures.reads

pub returns-clause-asking : goal.returns-clause-asking
returns-clause-asking g c = λ is_held.
    let node = c.args.node in
    let at = c.args.at in
    let items = c.args.self.now.machines.items in
    let found = slice_get items node in
    let owners = c.args.self.now.owners in
    let store = c.args.self.now.store in
    let hold = g.O.Owners.hold owners node at in
    let knows = (g.G.Register.knows c.args.self.now.register (Node node)).index in
    let middle = c.let_go.new.self in
    let between = slice_get middle.machines.items node in
    let some = is_some_there items node c.requires.there.0 in
    let some_then = is_some_there middle.machines.items node (subst (λ (n : ℕ). node < n) (sym c.let_go.ensures.count) c.requires.there.0) in
    let new = c.read.new.self in
    on_ok_weaker c.read.result
    (λ reads. if_new between (slice_get new.machines.items node) (λ (a b : Machine). b ≡ record a { fetch = Block at c.in-Some.hold.0 })
    (λ (b : Machine). IsAsking (g.O.Owners.request new.owners node at) (g.O.Owners.hold new.owners node at) (g.G.Register.knows new.register (Node node)).index b.fetch (g.O.Owners.is_spent new.owners node)) some_then
    (λ a b same. Reading (λ none. let e = sym none ∙ ap (λ (m : Machine). m.fetch) same in cc)) reads.0)
    c.read.ensures.reads

pub returns-clause-asks_on : goal.returns-clause-asks_on
returns-clause-asks_on g c = λ other asking.
    let node = c.args.node in
    let at = c.args.at in
    let items = c.args.self.now.machines.items in
    let found = slice_get items node in
    let owners = c.args.self.now.owners in
    let store = c.args.self.now.store in
    let hold = g.O.Owners.hold owners node at in
    let knows = (g.G.Register.knows c.args.self.now.register (Node node)).index in
    let middle = c.let_go.new.self in
    let between = slice_get middle.machines.items node in
    let some = is_some_there items node c.requires.there.0 in
    let some_then = is_some_there middle.machines.items node (subst (λ (n : ℕ). node < n) (sym c.let_go.ensures.count) c.requires.there.0) in
    let new = c.read.new.self in
    on_ok_weaker c.read.result
    (λ reads. if_new between (slice_get new.machines.items node) (λ (a b : Machine). b ≡ record a { fetch = Block at c.in-Some.hold.0 })
    (λ (b : Machine). IsAsking (g.O.Owners.request new.owners node other) (g.O.Owners.hold new.owners node other) (g.G.Register.knows new.register (Node node)).index b.fetch (g.O.Owners.is_spent new.owners node)) some_then
    (λ a b same. Reading (λ none. let e = sym none ∙ ap (λ (m : Machine). m.fetch) same in cc)) reads.0)
    c.read.ensures.reads

pub returns-clause-only : goal.returns-clause-only
returns-clause-only g c =
    let node = c.args.node in
    let at = c.args.at in
    let items = c.args.self.now.machines.items in
    let found = slice_get items node in
    let owners = c.args.self.now.owners in
    let store = c.args.self.now.store in
    let hold = g.O.Owners.hold owners node at in
    let knows = (g.G.Register.knows c.args.self.now.register (Node node)).index in
    let middle = c.let_go.new.self in
    let between = slice_get middle.machines.items node in
    let some = is_some_there items node c.requires.there.0 in
    let some_then = is_some_there middle.machines.items node (subst (λ (n : ℕ). node < n) (sym c.let_go.ensures.count) c.requires.there.0) in
    let new = c.read.new.self in
    let only = if_both found between (LetsGo at) OnlyHolds (λ a b goes. goes_only at a b goes) c.let_go.ensures.goes in
    on_ok_weaker c.read.result
    (λ reads. only_both found between (slice_get new.machines.items node) some_then only
    (if_both between (slice_get new.machines.items node) (λ (a b : Machine). b ≡ record a { fetch = Block at c.in-Some.hold.0 }) OnlyHolds (λ a b same. subst (λ (m : Machine). OnlyHolds a m) (sym same) refl) reads.0))
    c.read.ensures.reads
