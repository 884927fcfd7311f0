use Rattle.std.specs.Int.{w64, to_be_bytes}
use Rattle.bx_rows.specs.Spelling.{ballot_text, pair_text}
use Rattle.bx_rows.proofs.Pushed.{on_ok, two}
use Rattle.bx_rows.proofs.writing.push_ballot.Goals as goal

pub returns : goal.returns
unfolding ballot_text
returns c =
    let x = c.args.ballot.now in
    on_ok c.push_pair.result _ _ (two c.args.out.now.items (to_be_bytes w64 x.round) (pair_text x.actor x.boot) _ _ c.in_ok-push_u64.ensures.ok) c.push_pair.ensures
