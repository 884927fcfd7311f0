use Rattle.std.proofs.Common.{◌≡◌, ◌++◌, take, drop}
use Rattle.bx_tree_files.proofs.metadata.put_words.Given as goal

abbrev pub invariant-loop-at : goal.invariant-loop-at
invariant-loop-at l = l.list ≡ take l.at l.words ++ drop l.at l.initial.list
