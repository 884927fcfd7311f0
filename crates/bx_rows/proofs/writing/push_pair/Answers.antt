use Rattle.std.specs.Int.{w32, w64, to_be_bytes}
use Rattle.bx_rows.specs.Spelling.{pair_text}
use Rattle.bx_rows.proofs.Pushed.{on_ok, two}
use Rattle.bx_rows.proofs.writing.push_pair.Goals as goal

pub returns : goal.returns
unfolding pair_text
returns c = on_ok c.push_u64.result _ _ (two c.args.out.now.items (to_be_bytes w32 c.args.small) (to_be_bytes w64 c.args.great) _ _ c.in_ok-push_u32.ensures.ok) c.push_u64.ensures.ok
