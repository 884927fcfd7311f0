use Rattle.std.proofs.Common.{◌≡◌, ◌+◌, ◌<◌, ◌≤◌, ◌^◌, List, length, Some, ap, sym, subst, ◌∙◌, arith, ℕ}
use Rattle.bx_acceptor.proofs.Taking.{first_is_held}
use Rattle.bx_answers.specs.Handling.{first_held}
use Rattle.bx_cell.proofs.Beside.{keeps_none}
use Rattle.bx_cell.specs.Formats.{first}
use Rattle.bx_cell.specs.Halves.{cell_in}
use Rattle.bx_global.proofs.Lengths.{length-held}
use Rattle.bx_global.specs.Allowed.{IsAllowed}
use Rattle.bx_global.specs.Bytes.{held_text}
use Rattle.bx_global.specs.declared.state.GlobalState.{GlobalState}
use Rattle.bx_global.specs.Opening.{formatted_state}
use Rattle.bx_format.proofs.Spared.{spares_none}
use Rattle.bx_format.specs.Moments.{IsLabelSector}
use Rattle.bx_rack_commands.proofs.Made.{spares_beside}
use Rattle.bx_rack_commands.proofs.volumes.put_cells.Goals as goal

pub first_value-requires-clause-state : goal.first_value-requires-clause-state
first_value-requires-clause-state g c = subst IsAllowed (sym c.in_ok-state.ensures) (c.begins_allowed.ensures.formatted c.args.devices c.requires.least c.requires.most)

pub first_value-requires-clause-index : goal.first_value-requires-clause-index
first_value-requires-clause-index g c = subst (λ (s : GlobalState). s.index + 1 < 2 ^ 64) (sym c.in_ok-state.ensures) (omega arith)

pub format_each-requires-clause-short : goal.format_each-requires-clause-short
format_each-requires-clause-short g c =
    let made = formatted_state c.args.devices in
    let allowed = c.begins_allowed.ensures.formatted c.args.devices c.requires.least c.requires.most in
    let most = length-held (first_held made) (length made.devices) (first_is_held made allowed (omega arith)) in
    let same : c.bytes.result.now ≡ held_text (first_held made) = c.bytes.ensures ∙ c.in_ok-value.ensures ∙ ap (λ (s : GlobalState). held_text (first_held s)) c.in_ok-state.ensures in
    subst (λ (x : List ℕ). length x ≤ 4096) (sym same) (omega (arith, most))

pub returns-clause-cells : goal.returns-clause-cells
returns-clause-cells g c = λ tells.
    let made = formatted_state c.args.devices in
    let same : c.bytes.result.now ≡ held_text (first_held made) = c.bytes.ensures ∙ c.in_ok-value.ensures ∙ ap (λ (s : GlobalState). held_text (first_held s)) c.in_ok-state.ensures in
    let formatted = c.in_ok-format_each.ensures.formatted tells in
    record { each = λ n low. subst (λ (bytes : List ℕ). cell_in ((g.R.Rack.state c.format_each.new.rack).reads n) 1 ≡ Some (first bytes)) same (formatted.cell n low) }

pub returns-in_err-state-clause-beside : goal.returns-in_err-state-clause-beside
returns-in_err-state-clause-beside g c = λ tells. keeps_none (g.R.Rack.state c.args.rack.now) 3 1

pub returns-in_err-value-clause-beside : goal.returns-in_err-value-clause-beside
returns-in_err-value-clause-beside g c = λ tells. keeps_none (g.R.Rack.state c.args.rack.now) 3 1

pub returns-in_err-state-clause-spares : goal.returns-in_err-state-clause-spares
returns-in_err-state-clause-spares g c = λ tells. spares_none IsLabelSector (g.R.Rack.state c.args.rack.now) (g.R.Rack.moment c.args.rack.now) (g.R.Rack.left_since c.args.rack.now) (λ image left. g.met.R.Rack.only_now c.args.rack.now image tells left)

pub returns-in_err-value-clause-spares : goal.returns-in_err-value-clause-spares
returns-in_err-value-clause-spares g c = λ tells. spares_none IsLabelSector (g.R.Rack.state c.args.rack.now) (g.R.Rack.moment c.args.rack.now) (g.R.Rack.left_since c.args.rack.now) (λ image left. g.met.R.Rack.only_now c.args.rack.now image tells left)

pub returns-in_err-format_each-clause-spares : goal.returns-in_err-format_each-clause-spares
returns-in_err-format_each-clause-spares g c = λ tells. spares_beside _ _ _ _ _ _ (c.format_each.ensures.keeps tells) (c.format_each.ensures.any_moment tells)

pub returns-clause-spares : goal.returns-clause-spares
returns-clause-spares g c = λ tells. spares_beside _ _ _ _ _ _ (c.format_each.ensures.keeps tells) (c.format_each.ensures.any_moment tells)
