use Rattle.std.proofs.Common.{◌≡◌, ◌++◌, take}
use Rattle.bx_master.specs.Steps.{letters_of}
use Rattle.bx_master.proofs.letters.send_each.Given as goal

abbrev pub invariant-loop-word : goal.invariant-loop-word
invariant-loop-word l = l.out ≡ l.initial.out ++ letters_of l.server l.known (take l.word-index l.words)
