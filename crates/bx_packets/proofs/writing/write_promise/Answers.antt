use Rattle.std.proofs.Common.{ℕ, List, ◌++◌, ap, ◌∙◌}
use Rattle.bx_rows.proofs.Pushed.{two}
use Rattle.bx_packets.specs.Messages.{marks_text, promise_text}
use Rattle.bx_packets.proofs.writing.write_promise.Goals as goal

pub returns : goal.returns
unfolding promise_text
returns c =
    let x = c.args.promise.now in
    let all = two c.new-out.result.items (marks_text x) c.bytes.result.now _ _ c.in_ok-push_marks.ensures c.in_ok-push.ensures.ok in
    c.from.ensures ∙ all ∙ ap (λ (old : List ℕ). old ++ (marks_text x ++ c.bytes.result.now)) c.new-out.ensures.items ∙ ap (λ (text : List ℕ). marks_text x ++ text) (c.bytes.ensures ∙ c.in_ok-text.ensures)
