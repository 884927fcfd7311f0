use Rattle.std.specs.Int.{w64, to_be_bytes}
use Rattle.bx_rows.proofs.Pushed.{on_ok, two}
use Rattle.bx_lock_words.specs.Words.{numbers_text}
use Rattle.bx_lock_words.proofs.writing.push_numbers.Goals as goal

pub returns : goal.returns
unfolding numbers_text
returns c = on_ok c.push_u64-2.result _ _ (two c.args.out.now.items (to_be_bytes w64 c.args.first) (to_be_bytes w64 c.args.second) _ _ c.in_ok-push_u64.ensures.ok) c.push_u64-2.ensures.ok
