use Rattle.bx_rows.proofs.Pushed.{on_ok, two}
use Rattle.bx_lock_words.specs.Words.{numbers_text, release_text}
use Rattle.bx_lock_words.proofs.writing.push_release.Goals as goal

pub returns : goal.returns
unfolding release_text
returns c =
    let x = c.args.release.now in
    on_ok c.push_numbers-2.result _ _ (two c.args.out.now.items (numbers_text x.session x.block) (numbers_text x.number x.index) _ _ c.in_ok-push_numbers.ensures) c.push_numbers-2.ensures
