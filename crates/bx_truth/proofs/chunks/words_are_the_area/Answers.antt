use Rattle.bx_truth.proofs.Words.{word_is, dead_is}
use Rattle.bx_truth.proofs.chunks.words_are_the_area.Goals as goal

pub returns-clause-word : goal.returns-clause-word
returns-clause-word c = word_is

pub returns-clause-dead : goal.returns-clause-dead
returns-clause-dead c = dead_is
