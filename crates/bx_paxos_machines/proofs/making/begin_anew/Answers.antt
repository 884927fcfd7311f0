use Rattle.std.proofs.Common.{◌≡◌, ℕ, ◌<◌, ◌≤◌, List, length, Some, refl, sym, subst, ◌∙◌, arith}
use Rattle.std.specs.Prelude.{slice_index}
use Rattle.bx_acceptor.proofs.Taking.{first_is_held}
use Rattle.bx_answers.specs.Handling.{first_held}
use Rattle.bx_cell.specs.Formats.{first}
use Rattle.bx_cell.specs.Halves.{cell_in}
use Rattle.bx_global.proofs.Lengths.{length-held}
use Rattle.bx_global.specs.Bytes.{held_text}
use Rattle.bx_paxos_machines.proofs.Lists.{any_ok, beside_labels, beside_members, calm_image, calm_labels, calm_members, same_labels, same_members}
use Rattle.bx_paxos_machines.proofs.making.begin_anew.Goals as goal

pub format_each-requires-clause-short : goal.format_each-requires-clause-short
format_each-requires-clause-short r c =
    let made = c.args.state.now in
    let most = length-held (first_held made) (length made.devices) (first_is_held made c.requires.state c.requires.index) in
    let same : c.bytes.result.now ≡ held_text (first_held made) = c.bytes.ensures ∙ c.in_ok-value.ensures in
    subst (λ (x : List ℕ). length x ≤ 4096) (sym same) (omega (arith, most))

pub returns-clause-cells : goal.returns-clause-cells
returns-clause-cells r c = λ tells.
    let made = c.args.state.now in
    let same : c.bytes.result.now ≡ held_text (first_held made) = c.bytes.ensures ∙ c.in_ok-value.ensures in
    let told = c.format_each.ensures.rack.keeps_telling tells in
    let calm = c.begin_all.ensures.calm told in
    let written = c.in_ok-format_each.ensures.holds tells in
    any_ok c.begin_all.result _ (record {
      each = λ image sure. record {
        each = λ n low. subst (λ (bytes : List ℕ). cell_in (image n) 1 ≡ Some (first bytes)) same ((written n low).each image (calm_image (r.R.Rack.state c.format_each.new.rack) (r.R.Rack.state c.begin_all.new.rack) image calm sure));
      };
    })

pub begin_all-requires-clause-room : goal.begin_all-requires-clause-room
begin_all-requires-clause-room r c = subst (λ (sizes : List ℕ). (n : ℕ) → n < 3 → 21 ≤ slice_index sizes n) (sym c.format_each.ensures.rack.sizes) c.requires.room

pub returns-clause-begun : goal.returns-clause-begun
returns-clause-begun r c = λ tells.
    let made = c.args.state.now in
    let same : c.bytes.result.now ≡ held_text (first_held made) = c.bytes.ensures ∙ c.in_ok-value.ensures in
    let formatted = c.in_ok-format_each.ensures.formatted tells in
    c.begin_all.ensures.begun (c.format_each.ensures.rack.keeps_telling tells) (record {
      each = λ n low. subst (λ (bytes : List ℕ). cell_in ((r.R.Rack.state c.format_each.new.rack).reads n) 1 ≡ Some (first bytes)) same (formatted.cell n low);
    })

pub returns-in_err-value-clause-members : goal.returns-in_err-value-clause-members
returns-in_err-value-clause-members r c = λ tells. (same_members (r.R.Rack.state c.args.rack.now), same_labels (r.R.Rack.state c.args.rack.now))

pub returns-in_err-format_each-clause-members : goal.returns-in_err-format_each-clause-members
returns-in_err-format_each-clause-members r c = λ tells.
    let x = r.R.Rack.state c.args.rack.now in
    let y = r.R.Rack.state c.format_each.new.rack in
    let keeps = c.format_each.ensures.keeps tells in
    (beside_members x y keeps, beside_labels x y keeps)

pub returns-clause-members : goal.returns-clause-members
returns-clause-members r c = λ tells.
    let x = r.R.Rack.state c.args.rack.now in
    let y = r.R.Rack.state c.format_each.new.rack in
    let z = r.R.Rack.state c.begin_all.new.rack in
    let keeps = c.format_each.ensures.keeps tells in
    let calm = c.begin_all.ensures.calm (c.format_each.ensures.rack.keeps_telling tells) in
    (calm_members x y z (beside_members x y keeps) calm, calm_labels x y z (beside_labels x y keeps) calm)
