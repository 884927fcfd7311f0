use Rattle.bx_rows.proofs.Pushed.{on_ok, three}
use Rattle.bx_lock_words.specs.Words.{grant_text, mode_text, numbers_text}
use Rattle.bx_lock_words.proofs.writing.push_grant.Goals as goal

pub returns : goal.returns
unfolding grant_text
returns c =
    let x = c.args.grant.now in
    on_ok c.push_numbers-2.result _ _ (three c.args.out.now.items (numbers_text x.session x.block) (mode_text x.mode) (numbers_text x.number x.index) _ _ _ c.in_ok-push_numbers.ensures c.in_ok-push_mode.ensures) c.push_numbers-2.ensures
