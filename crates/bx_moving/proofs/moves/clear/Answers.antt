use Rattle.std.proofs.Common.{ℕ, List, [], Option, sym, subst}
use Rattle.bx_records.specs.Drafts.{Changed}
use Rattle.bx_model.specs.Edits.{changed}
use Rattle.bx_tree_files.specs.Changes.{taken_out}
use Rattle.bx_moving.specs.declared.moves.Replaced.{Replaced}
use Rattle.bx_moving.specs.Edits.{EditsTo, HasRoomFor, IsEdited, Rests, no_edit}
use Rattle.bx_moving.specs.Moves.{cleared}
use Rattle.bx_moving.proofs.Brought.{entry_cleared}
use Rattle.bx_moving.proofs.moves.clear.Goals as goal

pub returns-in-Some-clause-step : goal.returns-in-Some-clause-step
returns-in-Some-clause-step g c = λ truth tree moving old_name m same.
    let e = entry_cleared c.args.areas (g.V.View.held c.args.view.now) (g.V.View.hints c.args.view.now) truth tree moving old_name c.args.name.now c.args.replaced c.args.now c.args.target c.in-Some.other m c.in-Some.is same in
    subst (λ (o : Option Replaced). EditsTo c.args.areas truth [] (cleared c.args.now tree c.args.target c.args.name.now o) c.leave.result) (sym c.in-Some.is)
    (subst (λ (d : List Changed). EditsTo c.args.areas truth d (changed tree c.args.target (taken_out c.args.now c.args.name.now c.in-Some.other.is_directory)) c.leave.result) c.new-none.ensures
    (c.leave.ensures.step truth tree e.file e.parent e.next e.names e.entry (subst (λ (d : List Changed). Rests c.args.areas (g.V.View.held c.args.view.now) (g.V.View.hints c.args.view.now) truth d tree) (sym c.new-none.ensures) m.rests) e.there e.body e.kind e.found e.number_is))

pub returns-in-Some-clause-rooms : goal.returns-in-Some-clause-rooms
returns-in-Some-clause-rooms g c = λ truth tree moving old_name m same.
    let e = entry_cleared c.args.areas (g.V.View.held c.args.view.now) (g.V.View.hints c.args.view.now) truth tree moving old_name c.args.name.now c.args.replaced c.args.now c.args.target c.in-Some.other m c.in-Some.is same in
    c.leave.ensures.rooms truth tree e.file e.parent e.next e.names e.entry c.args.name.now (subst (λ (d : List Changed). Rests c.args.areas (g.V.View.held c.args.view.now) (g.V.View.hints c.args.view.now) truth d tree) (sym c.new-none.ensures) m.rests) e.there e.body e.kind e.found e.number_is
    (subst (λ (d : List Changed). HasRoomFor c.args.areas (g.V.View.held c.args.view.now) truth d c.args.target c.args.name.now) (sym c.new-none.ensures)
    (subst (λ (h : ℕ). HasRoomFor c.args.areas (g.V.View.held c.args.view.now) truth [] h c.args.name.now) same m.rooms))

pub returns-in-None-clause-edits : goal.returns-in-None-clause-edits
returns-in-None-clause-edits g c = subst (λ (d : List Changed). IsEdited (g.V.View.held c.args.view.now) (g.V.View.hints c.args.view.now) c.args.areas d) (sym c.new-none.ensures) no_edit

pub returns-in-Some-clause-edits : goal.returns-in-Some-clause-edits
returns-in-Some-clause-edits g c = c.leave.ensures.edits (subst (λ (d : List Changed). IsEdited (g.V.View.held c.args.view.now) (g.V.View.hints c.args.view.now) c.args.areas d) (sym c.new-none.ensures) no_edit)
