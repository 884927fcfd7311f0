use Rattle.std.proofs.Common.{◌≡◌, ◌∙◌, ℕ, Option, Some, IfSome, sym, ap, subst}
use Rattle.std.specs.Prelude.{slice_get, slice_set}
use Rattle.std.proofs.lemmas.Option.{slice_get-get_or}
use Rattle.bx_facts.specs.Holds.{first_of}
use Rattle.bx_node_steps.specs.Gives.{marked}
use Rattle.bx_node_steps.specs.Seen.{view_of}
use Rattle.bx_node_steps.specs.declared.machine.Machine.{Machine}
use Rattle.bx_nodes.proofs.Machines.{seen_same, set_here, set_there}
use Rattle.bx_nodes.proofs.nodes.Nodes.note_asked.Goals as goal

pub returns-clause-noted : goal.returns-clause-noted
returns-clause-noted g c =
    let items = c.args.self.now.machines.items in
    let node = c.args.node in
    let before = c.index_mut.result.now in
    let after = c.note.new.self in
    let asked = first_of (g.O.Owners.asks c.args.self.now.owners node) in
    let was : slice_get items node ≡ Some before = slice_get-get_or items node before c.requires.there ∙ ap (λ (m : Machine). Some m) (sym c.index_mut.ensures.value) in
    subst (λ (m : Option Machine). IfSome m (λ old. slice_get (slice_set items node after) node ≡ Some (record old { mark = marked asked old }))) (sym was)
    (set_here items node after before was ∙ ap (λ (m : Machine). Some m) (c.note.ensures ∙ ap (λ (a : Option (ℕ × ℕ)). record before { mark = marked a before }) c.asked-asked.ensures))

pub returns-clause-seen : goal.returns-clause-seen
returns-clause-seen g c =
    let items = c.args.self.now.machines.items in
    let node = c.args.node in
    let before = c.index_mut.result.now in
    let was : slice_get items node ≡ Some before = slice_get-get_or items node before c.requires.there ∙ ap (λ (m : Machine). Some m) (sym c.index_mut.ensures.value) in
    seen_same items node before c.note.new.self was (ap view_of c.note.ensures)

pub returns-clause-others : goal.returns-clause-others
returns-clause-others g c = record { others = λ other ne. set_there c.args.self.now.machines.items c.args.node other c.note.new.self ne }
