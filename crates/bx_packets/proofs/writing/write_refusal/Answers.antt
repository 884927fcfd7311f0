use Rattle.std.proofs.Common.{ℕ, List, ◌++◌, ap, ◌∙◌}
use Rattle.std.specs.Int.{w64, to_be_bytes}
use Rattle.bx_rows.specs.Spelling.{ballot_text}
use Rattle.bx_rows.proofs.Pushed.{two}
use Rattle.bx_packets.specs.Messages.{refusal_text}
use Rattle.bx_packets.proofs.writing.write_refusal.Goals as goal

pub returns : goal.returns
unfolding refusal_text
returns c =
    let i = c.args.index in
    let b = c.args.ballot.now in
    let all = two c.new-out.result.items (to_be_bytes w64 i) (ballot_text b) _ _ c.in_ok-push_u64.ensures.ok c.in_ok-push_ballot.ensures in
    c.from.ensures ∙ all ∙ ap (λ (old : List ℕ). old ++ refusal_text i b) c.new-out.ensures.items
