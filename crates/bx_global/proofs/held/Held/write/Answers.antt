use Rattle.std.proofs.Common.{ℕ, List, ◌++◌, ap, ◌∙◌}
use Rattle.bx_global.specs.Bytes.{held_text, marks_text, state_text}
use Rattle.bx_rows.proofs.Pushed.{three}
use Rattle.bx_global.proofs.held.Held.write.Goals as goal

pub returns : goal.returns
unfolding held_text
returns c =
    let x = c.args.self.now in
    let all = three c.new-out.result.items (marks_text x) (state_text x.accepted) (state_text x.decided) _ _ _ c.in_ok-push_marks.ensures c.in_ok-push_state.ensures c.in_ok-push_state-2.ensures in
    c.from.ensures ∙ all ∙ ap (λ (old : List ℕ). old ++ held_text x) c.new-out.ensures.items
