use Rattle.std.specs.Int.{w64, to_be_bytes}
use Rattle.bx_rows.proofs.Pushed.{on_ok, three}
use Rattle.bx_lock_words.specs.Words.{mode_text, numbers_text, want_text}
use Rattle.bx_lock_words.proofs.writing.push_want.Goals as goal

pub returns : goal.returns
unfolding want_text
returns c =
    let x = c.args.want.now in
    on_ok c.push_u64.result _ _ (three c.args.out.now.items (numbers_text x.session x.block) (mode_text x.mode) (to_be_bytes w64 x.number) _ _ _ c.in_ok-push_numbers.ensures c.in_ok-push_mode.ensures) c.push_u64.ensures.ok
