use Rattle.std.proofs.Common.{◌≡◌, ◌++◌, take}
use Rattle.bx_proposer.specs.Letters.{letters_to}
use Rattle.bx_proposer.proofs.letters.send_each.Given as goal

abbrev pub invariant-loop-who : goal.invariant-loop-who
invariant-loop-who l = l.out ≡ l.initial.out ++ letters_to l.from l.message (take l.who-index l.to)
