use Rattle.std.proofs.Common.{◌≡◌, ◌++◌, Some}
use Rattle.bx_clerk.specs.Events.{tick_words, wants_again}
use Rattle.bx_clerk.proofs.ticking.tick_words.Given as goal

abbrev pub invariant-loop-entry : goal.invariant-loop-entry
invariant-loop-entry l = l.words.items ++ wants_again l.session l.entry-iterator ≡ tick_words (Some l.session) l.requests
