use Rattle.std.proofs.Common.{◌≡◌, ◌∙◌, Some, sym, ap}
use Rattle.std.specs.Prelude.{slice_get}
use Rattle.std.proofs.lemmas.Option.{slice_get-get_or}
use Rattle.bx_node_steps.specs.Calls.{CallOf, WaitsAt}
use Rattle.bx_node_steps.specs.declared.machine.Machine.{Machine}
use Rattle.bx_nodes.proofs.Machines.{was_there}
use Rattle.bx_nodes.proofs.nodes.Nodes.has_calls.Goals as goal

pub returns-clause-none : goal.returns-clause-none
returns-clause-none g c = λ is.
    let items = c.args.self.now.machines.items in
    let node = c.args.node in
    let first = c.index.result.now in
    let there : slice_get items node ≡ Some first = slice_get-get_or items node first c.requires.there ∙ ap (λ (m : Machine). Some m) (sym c.index.ensures) in
    was_there (λ (m : Machine). (call : CallOf) → WaitsAt m call → ⊥) (slice_get items node) first there (λ call waits. c.has_calls.ensures.none is call waits)
