use Rattle.std.proofs.Common.{ℕ, List, ap, sym, ◌∙◌}
use Rattle.std.specs.Ordering.{is_lt, nat_cmp}
use Rattle.std.specs.Cmp.Lexicographic.{slice_cmp}
use Rattle.bx_audit_pages.proofs.OnePage.{none_below, first_not_below, not_true}
use Rattle.bx_audit_pages.proofs.pages.begins_above.Goals as goal

pub returns-in-Some : goal.returns-in-Some
returns-in-Some c =
    let x = c.in-Some.entry.now in
    let lt = c.is_lt.ensures ∙ ap is_lt (c.cmp.ensures ∙ ap (λ (key : List ℕ). slice_cmp nat_cmp key c.args.begins.now) c.bytes.ensures) in (
      λ above. none_below c.args.page.now.entries x c.args.begins.now c.requires c.in-Some.ensures (sym lt ∙ (not_true c.is_lt.result).0 above),
      λ all. (not_true c.is_lt.result).1 (lt ∙ first_not_below c.args.page.now.entries x c.args.begins.now c.in-Some.ensures all),
    )
