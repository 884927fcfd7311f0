use Rattle.std.proofs.Common.{◌≡◌, ◌∙◌, List, Some, IfSome, sym, ap, subst}
use Rattle.std.specs.Prelude.{slice_get, slice_set}
use Rattle.std.proofs.lemmas.Option.{slice_get-get_or}
use Rattle.bx_node_machines.specs.Machines.{MachineView}
use Rattle.bx_node_machines.specs.Nodes.{NodesStand}
use Rattle.bx_node_steps.specs.Ready.{WasReady}
use Rattle.bx_node_steps.specs.Seen.{view_of}
use Rattle.bx_node_steps.specs.Tidying.{Ticks}
use Rattle.bx_node_steps.specs.declared.machine.Machine.{Machine}
use Rattle.bx_nodes.proofs.Machines.{of_there, put_there, seen_same, set_there, was_there}
use Rattle.bx_nodes.proofs.Noting.{was_able_as}
use Rattle.bx_nodes.proofs.nodes.Nodes.tick.Goals as goal

pub returns-clause-ticks : goal.returns-clause-ticks
returns-clause-ticks g c =
    let items = c.args.self.now.machines.items in
    let node = c.args.node in
    let before = c.index_mut.result.now in
    let after = c.tick.new.self in
    let was : slice_get items node ≡ Some before = slice_get-get_or items node before c.requires.there ∙ ap (λ (m : Machine). Some m) (sym c.index_mut.ensures.value) in
    was_there (λ (m : Machine). IfSome (slice_get (slice_set items node after) node) (Ticks m)) (slice_get items node) before was (put_there (Ticks before) items node after before was c.tick.ensures)

pub returns-clause-stands : goal.returns-clause-stands
returns-clause-stands g c = λ x letters clocks course tree stands.
    let items = c.args.self.now.machines.items in
    let node = c.args.node in
    let before = c.index_mut.result.now in
    let after = c.tick.new.self in
    let was : slice_get items node ≡ Some before = slice_get-get_or items node before c.requires.there ∙ ap (λ (m : Machine). Some m) (sym c.index_mut.ensures.value) in
    let e = g.E.Engine in
    let self = c.args.self.now in
    subst (λ (machines : List MachineView). NodesStand g.G.Register g.O.Owners g.S.Store (e.stands self.engine) (e.step self.engine) self.register self.owners self.store x letters clocks machines course tree)
    (sym (seen_same items node before after was (ap view_of c.tick.ensures.only))) stands

pub returns-clause-ready : goal.returns-clause-ready
returns-clause-ready g c = λ ready.
    let items = c.args.self.now.machines.items in
    let node = c.args.node in
    let before = c.index_mut.result.now in
    let after = c.tick.new.self in
    let was : slice_get items node ≡ Some before = slice_get-get_or items node before c.requires.there ∙ ap (λ (m : Machine). Some m) (sym c.index_mut.ensures.value) in
    let made = g.S.Store.made c.args.self.now.store in
    let areas = g.E.Engine.areas c.args.self.now.engine in
    let asked = g.S.Store.asked c.args.self.now.store node in
    put_there (WasReady made areas asked) items node after before was (subst (WasReady made areas asked) (sym c.tick.ensures.only)
    (was_able_as made areas asked before before.mark after.ticks after.tidy (of_there (WasReady made areas asked) (slice_get items node) before was ready)))

pub returns-clause-seen : goal.returns-clause-seen
returns-clause-seen g c =
    let items = c.args.self.now.machines.items in
    let node = c.args.node in
    let before = c.index_mut.result.now in
    let was : slice_get items node ≡ Some before = slice_get-get_or items node before c.requires.there ∙ ap (λ (m : Machine). Some m) (sym c.index_mut.ensures.value) in
    seen_same items node before c.tick.new.self was (ap view_of c.tick.ensures.only)

pub returns-clause-others : goal.returns-clause-others
returns-clause-others g c = record { others = λ other ne. set_there c.args.self.now.machines.items c.args.node other c.tick.new.self ne }
