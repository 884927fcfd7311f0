use Rattle.std.proofs.Common.{List, ℕ, ap, sym, ◌∙◌}
use Rattle.std.specs.Ordering.{is_lt, nat_cmp}
use Rattle.std.specs.Cmp.Lexicographic.{slice_cmp}
use Rattle.bx_page.proofs.Rising.{all_below, last_below}
use Rattle.bx_page.proofs.checks.stay_below.Goals as goal

pub returns-in-Some : goal.returns-in-Some
returns-in-Some c =
    let es = c.args.entries.now in
    let high = c.args.high.now in
    let x = c.in-Some.entry.now in
    let item = c.in-Some.ensures.item in
    let lt = c.is_lt.ensures ∙ ap is_lt (c.cmp.ensures ∙ ap (λ (key : List ℕ). slice_cmp nat_cmp key c.args.high.now) c.bytes.ensures) in
    (λ t. all_below es x high c.requires item.3.0 item.1 (sym lt ∙ t), λ all. lt ∙ last_below es x high item.3.0 item.1 all)
