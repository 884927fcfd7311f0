use Rattle.std.proofs.Common.{◌≡◌, ◌∙◌, List, Some, IfSome, refl, sym, ap, subst}
use Rattle.std.specs.Prelude.{slice_get, slice_set}
use Rattle.std.proofs.lemmas.Option.{slice_get-get_or}
use Rattle.bx_node_machines.specs.Machines.{MachineView}
use Rattle.bx_node_machines.specs.Nodes.{NodesStand}
use Rattle.bx_node_steps.specs.Calls.{AreApart}
use Rattle.bx_node_steps.specs.Ready.{WasReady}
use Rattle.bx_nodes.specs.Calls.{AddsCall, IsNewest, WaitsBehind}
use Rattle.bx_node_steps.specs.declared.machine.Machine.{Machine}
use Rattle.bx_nodes.proofs.Machines.{of_there, put_there, seen_same, set_there, was_there}
use Rattle.bx_nodes.proofs.Calling.{adds_call}
use Rattle.bx_nodes.proofs.Readying.{ready_calls}
use Rattle.bx_nodes.proofs.nodes.Nodes.call.Goals as goal

pub returns-in_err-push-clause-seen : goal.returns-in_err-push-clause-seen
returns-in_err-push-clause-seen g c =
    let items = c.args.self.now.machines.items in
    let node = c.args.node in
    let before = c.index_mut.result.now in
    let was : slice_get items node ≡ Some before = slice_get-get_or items node before c.requires.there ∙ ap (λ (m : Machine). Some m) (sym c.index_mut.ensures.value) in
    let after : Machine = record before { calls = c.push.new.self } in
    seen_same items node before after was refl

pub returns-clause-seen : goal.returns-clause-seen
returns-clause-seen g c =
    let items = c.args.self.now.machines.items in
    let node = c.args.node in
    let before = c.index_mut.result.now in
    let was : slice_get items node ≡ Some before = slice_get-get_or items node before c.requires.there ∙ ap (λ (m : Machine). Some m) (sym c.index_mut.ensures.value) in
    let after : Machine = record before { calls = c.push.new.self } in
    seen_same items node before after was refl

pub returns-in_err-push-clause-others : goal.returns-in_err-push-clause-others
returns-in_err-push-clause-others g c =
    let items = c.args.self.now.machines.items in
    let node = c.args.node in
    let before = c.index_mut.result.now in
    let was : slice_get items node ≡ Some before = slice_get-get_or items node before c.requires.there ∙ ap (λ (m : Machine). Some m) (sym c.index_mut.ensures.value) in
    let after : Machine = record before { calls = c.push.new.self } in
    record { others = λ other ne. set_there items node other after ne }

pub returns-clause-others : goal.returns-clause-others
returns-clause-others g c =
    let items = c.args.self.now.machines.items in
    let node = c.args.node in
    let before = c.index_mut.result.now in
    let was : slice_get items node ≡ Some before = slice_get-get_or items node before c.requires.there ∙ ap (λ (m : Machine). Some m) (sym c.index_mut.ensures.value) in
    let after : Machine = record before { calls = c.push.new.self } in
    record { others = λ other ne. set_there items node other after ne }

pub returns-clause-waits : goal.returns-clause-waits
returns-clause-waits g c =
    let items = c.args.self.now.machines.items in
    let node = c.args.node in
    let before = c.index_mut.result.now in
    let was : slice_get items node ≡ Some before = slice_get-get_or items node before c.requires.there ∙ ap (λ (m : Machine). Some m) (sym c.index_mut.ensures.value) in
    let after : Machine = record before { calls = c.push.new.self } in
    was_there (λ (old : Machine). IfSome (slice_get (slice_set items node after) node) (WaitsBehind c.args.call old)) (slice_get items node) before was
    (put_there (WaitsBehind c.args.call before) items node after before was (record { only = refl; calls = c.in_ok-push.ensures.items }))

pub returns-clause-adds : goal.returns-clause-adds
returns-clause-adds g c =
    let items = c.args.self.now.machines.items in
    let node = c.args.node in
    let before = c.index_mut.result.now in
    let was : slice_get items node ≡ Some before = slice_get-get_or items node before c.requires.there ∙ ap (λ (m : Machine). Some m) (sym c.index_mut.ensures.value) in
    let after : Machine = record before { calls = c.push.new.self } in
    was_there (λ (old : Machine). IfSome (slice_get (slice_set items node after) node) (λ (new : Machine). IsNewest c.args.call old → AreApart old → AddsCall c.args.call old new)) (slice_get items node) before was
    (put_there (λ (new : Machine). IsNewest c.args.call before → AreApart before → AddsCall c.args.call before new) items node after before was
    (adds_call c.args.call before after (record { only = refl; calls = c.in_ok-push.ensures.items })))

pub returns-clause-stands : goal.returns-clause-stands
returns-clause-stands g c = λ x letters clocks course tree stands.
    let items = c.args.self.now.machines.items in
    let node = c.args.node in
    let before = c.index_mut.result.now in
    let was : slice_get items node ≡ Some before = slice_get-get_or items node before c.requires.there ∙ ap (λ (m : Machine). Some m) (sym c.index_mut.ensures.value) in
    let after : Machine = record before { calls = c.push.new.self } in
    let e = g.E.Engine in
    let self = c.args.self.now in
    subst (λ (machines : List MachineView). NodesStand g.G.Register g.O.Owners g.S.Store (e.stands self.engine) (e.step self.engine) self.register self.owners self.store x letters clocks machines course tree)
    (sym (seen_same items node before after was refl)) stands

pub returns-clause-ready : goal.returns-clause-ready
returns-clause-ready g c = λ ready.
    let items = c.args.self.now.machines.items in
    let node = c.args.node in
    let before = c.index_mut.result.now in
    let was : slice_get items node ≡ Some before = slice_get-get_or items node before c.requires.there ∙ ap (λ (m : Machine). Some m) (sym c.index_mut.ensures.value) in
    let after : Machine = record before { calls = c.push.new.self } in
    let self = c.args.self.now in
    let made = g.S.Store.made self.store in
    let areas = g.E.Engine.areas self.engine in
    let asked = g.S.Store.asked self.store node in
    put_there (WasReady made areas asked) items node after before was
    (ready_calls made areas asked before after refl (of_there (WasReady made areas asked) (slice_get items node) before was ready))
