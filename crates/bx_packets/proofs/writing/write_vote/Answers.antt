use Rattle.std.proofs.Common.{ℕ, List, ◌++◌, ap, ◌∙◌}
use Rattle.std.specs.Int.{w64, to_be_bytes}
use Rattle.bx_rows.specs.Spelling.{ballot_text}
use Rattle.bx_rows.proofs.Pushed.{two}
use Rattle.bx_packets.specs.Messages.{vote_text}
use Rattle.bx_packets.proofs.writing.write_vote.Goals as goal

pub returns : goal.returns
unfolding vote_text
returns c =
    let b = c.args.ballot.now in
    let i = c.args.index in
    let all = two c.new-out.result.items (ballot_text b) (to_be_bytes w64 i) _ _ c.in_ok-push_ballot.ensures c.in_ok-push_u64.ensures.ok in
    c.from.ensures ∙ all ∙ ap (λ (old : List ℕ). old ++ vote_text b i) c.new-out.ensures.items
