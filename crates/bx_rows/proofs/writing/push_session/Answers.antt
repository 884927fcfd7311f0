use Rattle.std.specs.Int.{w64, to_be_bytes}
use Rattle.bx_rows.specs.Spelling.{session_text, pair_text}
use Rattle.bx_rows.proofs.Pushed.{on_ok, four}
use Rattle.bx_rows.proofs.writing.push_session.Goals as goal

pub returns : goal.returns
unfolding session_text
returns c =
    let x = c.args.row.now in
    on_ok c.push_pair-3.result _ _ (four c.args.out.now.items (to_be_bytes w64 x.number) (pair_text x.node x.boot) (pair_text x.slot x.until) (pair_text x.dead x.by) _ _ _ _ c.in_ok-push_u64.ensures.ok c.in_ok-push_pair.ensures c.in_ok-push_pair-2.ensures) c.push_pair-3.ensures
