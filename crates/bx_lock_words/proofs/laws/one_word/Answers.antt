use Rattle.bx_lock_words.proofs.Spelled.{one_word}
use Rattle.bx_lock_words.proofs.laws.one_word.Goals as goal

pub returns : goal.returns
returns c = one_word
