use Rattle.std.specs.Int.{w64, to_be_bytes}
use Rattle.bx_global.specs.Bytes.{heads_text}
use Rattle.bx_rows.specs.Spelling.{pair_text}
use Rattle.bx_rows.proofs.Pushed.{on_ok, five}
use Rattle.bx_global.proofs.writing.push_heads.Goals as goal

pub returns : goal.returns
unfolding heads_text
returns c =
    let x = c.args.state.now in
    on_ok c.push_u64-4.result _ _ (five c.args.out.now.items (to_be_bytes w64 x.index) (pair_text x.master x.master_boot) (to_be_bytes w64 x.term) (to_be_bytes w64 x.term_end) (to_be_bytes w64 x.next_session) _ _ _ _ _ c.in_ok-push_u64.ensures.ok c.in_ok-push_pair.ensures c.in_ok-push_u64-2.ensures.ok c.in_ok-push_u64-3.ensures.ok) c.push_u64-4.ensures.ok
