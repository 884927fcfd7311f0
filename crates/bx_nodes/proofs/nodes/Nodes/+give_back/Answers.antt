use Rattle.std.proofs.Common.{◌≡◌, ◌∙◌, ℕ, ◌<◌, arith, List, length, Option, Some, IfSome, refl, sym, subst, rules}
use Rattle.std.specs.Prelude.{slice_get}
use Rattle.std.proofs.lemmas.Result.{on_ok_weaker}
use Rattle.bx_facts.specs.Chains.{Chain, LivesIn, last}
use Rattle.bx_facts.specs.Holds.{first_of}
use Rattle.bx_node_events.proofs.Works.{keeps_on}
use Rattle.bx_nodes.proofs.Fewer.{fewer}
use Rattle.bx_nodes.proofs.Giving.{gives_there, stays_there}
use Rattle.bx_nodes.proofs.Machines.{if_both, is_some_there, only_both, under_then}
use Rattle.bx_node_steps.specs.Changing.{LetsGo}
use Rattle.bx_node_steps.specs.Gives.{MayKeep}
use Rattle.bx_nodes.specs.Asks.{OnlyHolds}
use Rattle.bx_nodes.proofs.Rests.{steps}
use Rattle.bx_nodes.proofs.Wanting.{goes_only}
use Rattle.bx_nodes.proofs.nodes.Nodes.+give_back.Goals as goal

pub give_back-requires : goal.give_back-requires
give_back-requires g t c κs within =
    let owners = c.args.self.now.owners in
    let first : first_of (g.O.Owners.asks owners c.args.node) ≡ Some (c.in-Some.block, c.in-Some.asking) = sym c.in-Some.ensures in
    let less : length (g.O.Owners.asks c.give_up.new.self.owners c.args.node) < length (g.O.Owners.asks owners c.args.node) =
    subst (λ (l : List (ℕ × ℕ)). length l < length (g.O.Owners.asks owners c.args.node)) (sym c.in_ok-give_up.ensures.gives.2) (fewer (g.O.Owners.asks owners c.args.node) (c.in-Some.block, c.in-Some.asking) first) in
    search (rules, less)

pub returns-clause-stands : goal.returns-clause-stands
returns-clause-stands g t c = λ x letters clocks course tree session up stands own live mine.
    let one = c.in_ok-give_up.ensures.stands x letters clocks course tree session up stands own live mine in
    let node = c.args.node in
    let items = c.args.self.now.machines.items in
    let still = under_then (slice_get items node) (slice_get c.give_up.new.self.machines.items node) session (is_some_there items node c.requires.there.0) (if_both (slice_get items node) (slice_get c.give_up.new.self.machines.items node) (LetsGo c.in-Some.block) OnlyHolds (λ a b goes. goes_only c.in-Some.block a b goes) c.in_ok-give_up.ensures.goes) mine in
    on_ok_weaker c.give_back.result (λ two. record { later = two.later; chain = two.chain ∙ one.chain; knew = two.knew ∙ one.knew; logs = two.logs ∙ one.logs; works = keeps_on _ _ _ one.works two.works; stands = two.stands })
    (c.give_back.ensures.stands x letters clocks one.later tree session up one.stands ((c.in_ok-give_up.ensures.own node).0 ∙ own) (subst (λ (chain : Chain). LivesIn (last chain) session) (sym one.chain) live) still)

pub returns-clause-only : goal.returns-clause-only
returns-clause-only g t c =
    let node = c.args.node in
    let items = c.args.self.now.machines.items in
    let middle = c.give_up.new.self.machines.items in
    on_ok_weaker c.give_back.result
    (λ two. only_both (slice_get items node) (slice_get middle node) (slice_get c.give_back.new.self.machines.items node) (is_some_there middle node (subst (λ (n : ℕ). node < n) (sym c.in_ok-give_up.ensures.count) c.requires.there.0))
    (if_both (slice_get items node) (slice_get middle node) (LetsGo c.in-Some.block) OnlyHolds (λ a b goes. goes_only c.in-Some.block a b goes) c.in_ok-give_up.ensures.goes) two)
    c.give_back.ensures.only

pub returns-clause-fewer : goal.returns-clause-fewer
returns-clause-fewer g t c =
    let owners = c.args.self.now.owners in
    let first : first_of (g.O.Owners.asks owners c.args.node) ≡ Some (c.in-Some.block, c.in-Some.asking) = sym c.in-Some.ensures in
    let less : length (g.O.Owners.asks c.give_up.new.self.owners c.args.node) < length (g.O.Owners.asks owners c.args.node) =
    subst (λ (l : List (ℕ × ℕ)). length l < length (g.O.Owners.asks owners c.args.node)) (sym c.in_ok-give_up.ensures.gives.2) (fewer (g.O.Owners.asks owners c.args.node) (c.in-Some.block, c.in-Some.asking) first) in
    on_ok_weaker c.give_back.result (λ more. omega (arith, more, less)) c.give_back.ensures.fewer

pub returns-clause-keeps : goal.returns-clause-keeps
returns-clause-keeps g t c =
    let node = c.args.node in
    let items = c.args.self.now.machines.items in
    let middle = c.give_up.new.self.machines.items in
    let asks = g.O.Owners.asks c.args.self.now.owners node in
    on_ok_weaker c.give_back.result
    (λ rest. steps c.args.session c.in-Some.block c.in-Some.asking asks (g.O.Owners.asks c.give_up.new.self.owners node) (slice_get items node) (slice_get middle node) (slice_get c.give_back.new.self.machines.items node)
    (is_some_there middle node (subst (λ (n : ℕ). node < n) (sym c.in_ok-give_up.ensures.count) c.requires.there.0)) (sym c.in-Some.ensures) c.in_ok-give_up.ensures.gives.2 c.in_ok-give_up.ensures.goes
    (c.if-not-may_give.ensures.free refl) rest)
    c.give_back.ensures.keeps

pub returns-in_default-clause-gives : goal.returns-in_default-clause-gives
returns-in_default-clause-gives g t c =
    let node = c.args.node in
    let found = slice_get c.args.self.now.machines.items node in
    let owners = c.args.self.now.owners in
    stays_there g.O.Owners node c.args.session owners found
    (subst (λ (f : Option (ℕ × ℕ)). IfSome f (λ asked. MayKeep (g.O.Owners.hold owners node asked.0) c.args.session asked found)) c.in_default.ensures tt)

pub returns-then-not-may_give-clause-gives : goal.returns-then-not-may_give-clause-gives
returns-then-not-may_give-clause-gives g t c =
    let node = c.args.node in
    let found = slice_get c.args.self.now.machines.items node in
    let owners = c.args.self.now.owners in
    stays_there g.O.Owners node c.args.session owners found
    (subst (λ (f : Option (ℕ × ℕ)). IfSome f (λ asked. MayKeep (g.O.Owners.hold owners node asked.0) c.args.session asked found)) c.in-Some.ensures (c.if-not-may_give.ensures.may_not refl))

pub returns-clause-gives : goal.returns-clause-gives
returns-clause-gives g t c =
    let node = c.args.node in
    let items = c.args.self.now.machines.items in
    let middle = c.give_up.new.self.machines.items in
    let owners = c.args.self.now.owners in
    let asked : ℕ × ℕ = (c.in-Some.block, c.in-Some.asking) in
    let may = c.if-not-may_give.ensures in
    on_ok_weaker c.give_back.result
    (λ rest. gives_there g.O.Owners node c.args.session asked owners c.give_up.new.self.owners c.give_back.new.self.owners (slice_get items node) (slice_get middle node) (slice_get c.give_back.new.self.machines.items node)
    (is_some_there middle node (subst (λ (n : ℕ). node < n) (sym c.in_ok-give_up.ensures.count) c.requires.there.0)) (sym c.in-Some.ensures) (may.may refl) (may.free refl)
    (record { passes_on = c.in_ok-give_up.ensures.gives.0; gone = c.in_ok-give_up.ensures.gives.1; asks = c.in_ok-give_up.ensures.gives.2 }) c.in_ok-give_up.ensures.goes rest)
    c.give_back.ensures.gives
