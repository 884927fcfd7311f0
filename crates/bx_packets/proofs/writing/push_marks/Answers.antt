use Rattle.std.specs.Int.{w32, w64, to_be_bytes}
use Rattle.bx_rows.specs.Spelling.{ballot_text}
use Rattle.bx_rows.proofs.Pushed.{on_ok, four}
use Rattle.bx_packets.specs.Messages.{marks_text}
use Rattle.bx_packets.proofs.writing.push_marks.Goals as goal

pub returns : goal.returns
unfolding marks_text
returns c =
    let x = c.args.promise.now in
    on_ok c.push_ballot-2.result _ _ (four c.args.out.now.items (ballot_text x.ballot) (to_be_bytes w64 x.index) (to_be_bytes w32 x.flag) (ballot_text x.accepted) _ _ _ _ c.in_ok-push_ballot.ensures c.in_ok-push_u64.ensures.ok c.in_ok-push_u32.ensures.ok) c.push_ballot-2.ensures
