use Rattle.std.proofs.Common.{◌≡◌, take}
use Rattle.bx_tree_files.proofs.metadata.words_of.Given as goal

abbrev pub invariant-loop-word : goal.invariant-loop-word
invariant-loop-word l = l.list ≡ take l.word-index l.words
