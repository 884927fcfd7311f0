use Rattle.std.proofs.Common.{◌≡◌, take}
use Rattle.std.specs.Prelude.{map}
use Rattle.bx_records.specs.Drafts.{Changed}
use Rattle.bx_redo.proofs.text.head_of.Given as goal

abbrev pub invariant-loop-number : goal.invariant-loop-number
invariant-loop-number l = l.numbers ≡ map (λ (change : Changed). change.0) (take l.number-index l.blocks)
