use Rattle.std.proofs.Common.{◌≡◌, ◌++◌, take}
use Rattle.bx_clerk.specs.Clerks.{letters_from}
use Rattle.bx_clerk.proofs.letters.send_each.Given as goal

abbrev pub invariant-loop-word : goal.invariant-loop-word
invariant-loop-word l = l.out ≡ l.initial.out ++ letters_from l.node l.server (take l.word-index l.words)
